-- The scan that writes the twins: the neighbours of a use in the order, and the loop over all of them. Assumes nothing.
use mathlib.Core.Path.{◌≡◌, refl, sym, ap, ap₂, ◌∙◌}
use mathlib.Core.Bool.{Bool, true, false}
use mathlib.Core.List.{List}
use Prim.Native.Nat.{ℕ, zero, suc, ◌+◌, ◌-◌, ◌≤◌, ◌<◌}
use native.Mathlib.Numerals.{add-one}
use native.Mathlib.Omega.{arith}
use lib.Dec.{ltb}
use lib.ListN.{length, get_or, drop, set, length-set}
use borrow.Author.Tests.{ltb-true, ltb-false}
use Rattle.lists.proofs.Bools.{by_cases, true_false}
use Rattle.uses.specs.Uses.{goes_on}
use Rattle.uses.proofs.Reading.{next_none}
use Rattle.crossing.specs.Crossing.{on_at, back_at, twin_by, twin_at, twinned, Between}

-- ---- the twin by what is known of the neighbours

module _ (order : List ℕ) (i : ℕ) (b o : Bool) where
  pub by_back : b ≡ true → get_or order (i - 1) 0 ≡ twin_by order i b o
  by_back h = sym (ap (λ (x : Bool). twin_by order i x o) h)

  pub by_on : b ≡ false → o ≡ true → get_or order (i + 1) 0 ≡ twin_by order i b o
  by_on h k = sym (ap₂ (twin_by order i) h k)

  pub by_own : b ≡ false → o ≡ false → get_or order i 0 ≡ twin_by order i b o
  by_own h k = sym (ap₂ (twin_by order i) h k)

module _ (lowers highers order : List ℕ) where
  abbrev on : ℕ → Bool
  on = on_at lowers highers order

  abbrev back : ℕ → Bool
  back = back_at lowers highers order

  -- ---- the neighbours

  pub on_is : (i : ℕ) (b : Bool) → b ≡ goes_on lowers highers (get_or order i 0) (drop (i + 1) order) → b ≡ on i
  unfolding on_at
  on_is i b e = e

  pub back_none : false ≡ back 0
  unfolding back_at
  back_none = refl

  pub back_next : (i : ℕ) (b : Bool) → b ≡ goes_on lowers highers (get_or order i 0) (drop (i + 1) order) → b ≡ back (i + 1)
  unfolding back_at
  back_next i b e = on_is i b e ∙ ap back (sym (add-one i))

  pub back_above : (i : ℕ) → back i ≡ true → 0 < i
  unfolding back_at
  back_above zero h = true_false (sym h)
  back_above (suc i) h = omega arith

  pub on_inside : (i : ℕ) → on i ≡ true → i + 1 < length order
  unfolding on_at
  on_inside i h =
      by_cases (ltb (i + 1) (length order))
      (λ p. ltb-true (i + 1) (length order) p)
      (λ p. true_false (sym h ∙ sym (next_none lowers highers order i (ltb-false (i + 1) (length order) p))))

  -- what is known of them is enough
  pub between :
      (i : ℕ) (b o : Bool) → i < length order → b ≡ back i → o ≡ goes_on lowers highers (get_or order i 0) (drop (i + 1) order) → Between order i b o
  between i b o h p q = record { inside = h; not_first = λ z. back_above i (sym p ∙ z); not_last = λ z. on_inside i (sym (on_is i o q) ∙ z) }

  pub twin_back : (i v : ℕ) → back i ≡ true → v ≡ get_or order (i - 1) 0 → v ≡ twin_at lowers highers order i
  unfolding twin_at
  twin_back i v h e = e ∙ by_back order i (back i) (on i) h

  pub twin_on : (i v : ℕ) → back i ≡ false → on i ≡ true → v ≡ get_or order (i + 1) 0 → v ≡ twin_at lowers highers order i
  unfolding twin_at
  twin_on i v h k e = e ∙ by_on order i (back i) (on i) h k

  pub twin_own : (i v : ℕ) → back i ≡ false → on i ≡ false → v ≡ get_or order i 0 → v ≡ twin_at lowers highers order i
  unfolding twin_at
  twin_own i v h k e = e ∙ by_own order i (back i) (on i) h k

  -- ---- one after the other

  pub record Pairing (t₀ t : List ℕ) (b : Bool) (i : ℕ) : Type 0 where
    pub within : i ≤ length order
    pub back_is : b ≡ back i
    pub written : t ≡ twinned lowers highers order i t₀
    pub long : length t ≡ length t₀

  pub pair_begins : (t₀ : List ℕ) → Pairing t₀ t₀ false 0
  unfolding twinned
  pair_begins t₀ = record { within = omega arith; back_is = back_none; written = refl; long = refl }

  pub pair_turns :
      (t₀ t : List ℕ) (b o : Bool) (i u v : ℕ) → i < length order → u ≡ get_or order i 0 → o ≡ goes_on lowers highers (get_or order i 0) (drop (i + 1) order)
      → v ≡ twin_by order i b o → Pairing t₀ t b i → Pairing t₀ (set t u v) o (i + 1)
  unfolding twinned twin_at
  pair_turns t₀ t b o i u v h e q w p =
      let z : v ≡ twin_at lowers highers order i = w ∙ ap₂ (twin_by order i) p.back_is (on_is i o q) in
      record {
        within = omega arith;
        back_is = back_next i o q;
        written = cc (add-one i, p.written);
        long = length-set t u v ∙ p.long;
      }
