-- The same faces in another order use the same indices, and so as many: as many entries are left after compaction. Assumes nothing.
use mathlib.Core.Path.{◌≡◌, refl, sym, ap, ap₂, ◌∙◌}
use mathlib.Core.Bool.{Bool, true, false, not, ◌&&◌, ◌||◌}
use mathlib.Core.List.{List, ◌∷◌, map}
use Prim.Native.Nat.{ℕ}
use lib.ListN.{length}
use lib.Dec.{eqb}
use borrow.Author.Tests.{eqb-true}
use Rattle.lists.specs.Lists.{some, has, count, bump, joined}
use Rattle.lists.proofs.Bools.{by_cases}
use Rattle.lists.proofs.Cases.{or_swap}
use Rattle.lists.proofs.Counting.{count_all, count_none}
use Rattle.lists.proofs.Alike.{some_map}
use Rattle.lists.proofs.Parts.{some_append}
use Rattle.lists.proofs.Members.{Once, once_in}
use Rattle.lists.proofs.Others.{eqb_self}
use Rattle.mesh.specs.Mesh.{missing}
use Rattle.order.specs.Same.{Turned, Same, none, face, swap, then}
use Rattle.order.proofs.Turning.{Halves, halves}
use Rattle.unused.specs.Compaction.{uses_of}
use Rattle.unused.proofs.Uses.{has_uses, uses_once}
use Rattle.renumbered.proofs.Counted.{counts_alike}

-- ---- a test of some corner does not depend on the order

or_turn : (a b : Bool) → (a || b) ≡ (b || a)
or_turn true true = refl
or_turn true false = refl
or_turn false true = refl
or_turn false false = refl

module _ {A : Type 0} (p : A → Bool) where
  some_turned : {f g : List A} → Turned f g → some p f ≡ some p g
  some_turned {f} {g} t =
      let h : Halves f g = halves t in
      ap (some p) h.was
      ∙ some_append p h.front h.rear
      ∙ or_turn (some p h.front) (some p h.rear)
      ∙ sym (ap (some p) h.is ∙ some_append p h.rear h.front)

  pub some_same : {m n : List (List A)} → Same m n → some p (joined m) ≡ some p (joined n)
  some_same none = refl
  some_same (face {f = f} {g = g} {m = m} {n = n} t s) =
      some_append p f (joined m) ∙ ap₂ (λ (a b : Bool). a || b) (some_turned t) (some_same s) ∙ sym (some_append p g (joined n))
  some_same (swap {f = f} {g = g} {m = m}) =
      some_append p f (joined (g ∷ m))
      ∙ ap (λ (b : Bool). some p f || b) (some_append p g (joined m))
      ∙ or_swap (some p f) (some p g) (some p (joined m))
      ∙ sym (some_append p g (joined (f ∷ m)) ∙ ap (λ (b : Bool). some p g || b) (some_append p f (joined m)))
  some_same (then s t) = some_same s ∙ some_same t

-- so an index stands in a column of the one just where it does in that of the other
pub column_same : {A : Type 0} (col : A → ℕ) {m n : List (List A)} → Same m n → (x : ℕ) → has x (map col (joined m)) ≡ has x (map col (joined n))
column_same col {m} {n} s x =
    some_map (eqb x) col (joined m) ∙ some_same (λ c. eqb x (col c)) s ∙ sym (some_map (eqb x) col (joined n))

-- ---- lists without repetition that have the same elements are as long

once_count : (l : List ℕ) → Once l → (x : ℕ) → count (eqb x) l ≡ bump (has x l) 0
once_count l o x =
    by_cases (has x l)
    (λ h. once_in l o x h ∙ sym (ap (λ (b : Bool). bump b 0) h))
    (λ h. count_none (eqb x) l h ∙ sym (ap (λ (b : Bool). bump b 0) h))

pub as_long : (l k : List ℕ) → Once l → Once k → ((x : ℕ) → has x l ≡ has x k) → length l ≡ length k
as_long l k o q h =
    sym (count_all l)
    ∙ (counts_alike eqb eqb-true eqb_self l k (λ x. once_count l o x ∙ ap (λ (b : Bool). bump b 0) (h x) ∙ sym (once_count k q x))).agree (λ x. true)
    ∙ count_all k

pub as_many_used : (l k : List ℕ) → ((x : ℕ) → has x l ≡ has x k) → length (uses_of l) ≡ length (uses_of k)
as_many_used l k h =
    as_long (uses_of l) (uses_of k) (uses_once l) (uses_once k)
    (λ x. has_uses x l ∙ ap (λ (b : Bool). not (eqb x missing) && b) (h x) ∙ sym (has_uses x k))
