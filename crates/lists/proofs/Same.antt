-- The test of two lists is equality, whatever the elements are. Assumes nothing.
use Prim.Native.Nat.{ℕ}
use mathlib.Core.Path.{◌≡◌, refl, subst}
use mathlib.Core.Bool.{Bool, true}
use mathlib.Core.List.{List, [], ◌∷◌}
use lib.Dec.{eqb}
use borrow.Author.Tests.{eqb-true, eq-eqb}
use Rattle.lists.specs.Same.{same_by, same_numbers, same_lists, same_rings, IsEquality, SameIsEquality}
use Rattle.lists.proofs.Bools.{and_both, and_left, and_right}
use Rattle.lists.proofs.Counting.{clash}

module _ {A : Type 0} (t : A → A → Bool) (eq : IsEquality t) where
  same_equal : (l k : List A) → same_by t l k ≡ true → l ≡ k
  same_equal [] [] h = refl
  same_equal [] (y ∷ k) h = clash h refl
  same_equal (x ∷ l) [] h = clash h refl
  same_equal (x ∷ l) (y ∷ k) h =
      λ i. (eq x y).0 (and_left (t x y) (same_by t l k) h) i ∷ same_equal l k (and_right (t x y) (same_by t l k) h) i

  same_self : (l : List A) → same_by t l l ≡ true
  same_self [] = refl
  same_self (x ∷ l) = and_both (t x x) (same_by t l l) ((eq x x).1 refl) (same_self l)

pub same_is_equality : SameIsEquality
same_is_equality A t eq l k = (same_equal t eq l k, λ e. subst (λ m. same_by t l m ≡ true) e (same_self t eq l))

-- of numbers, of lists of numbers, of lists of such lists
pub numbers_equal : IsEquality same_numbers
numbers_equal = same_is_equality ℕ eqb (λ x y. (eqb-true x y, eq-eqb x y))

pub lists_equal : IsEquality same_lists
lists_equal = same_is_equality (List ℕ) same_numbers numbers_equal

pub rings_equal : IsEquality same_rings
rings_equal = same_is_equality (List (List ℕ)) same_lists lists_equal
