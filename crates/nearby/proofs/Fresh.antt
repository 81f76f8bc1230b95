-- Whether a point is near another and not taken, test by test; and the search for the highest such point. Assumes nothing.
use mathlib.Core.Path.{◌≡◌, refl, sym, ap, ◌∙◌}
use mathlib.Core.Bool.{Bool, true, false, not, ◌&&◌, and-true}
use mathlib.Core.List.{List}
use Prim.Native.Nat.{ℕ, ◌≤◌, ◌<◌}
use lib.ListN.{get_or}
use lib.Ieee.{Float, binary64, mul, lt}
use borrow.Author.Tests.{not-true, not-false}
use Rattle.lists.proofs.Bools.{by_cases, and_left, and_right, and_false_right}
use Rattle.floating.specs.Points.{leading, row}
use Rattle.floating.specs.Near.{squared, below}
use Rattle.floating.specs.declared.Point.{Point}
use Rattle.nearby.specs.Engine.{beside_at, near_by, fresh}

module _ (t : Float) (w : ℕ) (s : List Float) (cells : List ℕ) (seen : List Bool) (i j : ℕ) where
  abbrev close : Bool
  close = below t (row w s i) (row w s j)

  pub not_beside : beside_at w cells i j ≡ false → false ≡ fresh (near_by t w s cells) seen i j
  unfolding fresh near_by
  not_beside e = rw e

  pub not_new : get_or seen j false ≡ true → false ≡ fresh (near_by t w s cells) seen i j
  unfolding fresh near_by
  not_new e = rw e (sym (and_false_right (beside_at w cells i j && close) false refl))

  pub by_distance :
      beside_at w cells i j ≡ true
      → get_or seen j false ≡ false
      → (p q : Point) (d : Float)
      → leading w p ≡ row w s i
      → leading w q ≡ row w s j
      → d ≡ squared (leading w p) (leading w q)
      → lt d (mul binary64 t t) ≡ fresh (near_by t w s cells) seen i j
  unfolding fresh near_by
  by_distance e f p q d a b c = rw (e, f) (ap (λ (x : Float). lt x (mul binary64 t t)) (c ∙ ap (λ (l : List Float). squared l (leading w q)) a ∙ ap (squared (row w s i)) b) ∙ sym (and-true close))

  -- where the code knows the first two tests together
  module _ (v : Bool) (e : v ≡ (beside_at w cells i j && not (get_or seen j false))) where
    pub not_fresh : v ≡ false → v ≡ fresh (near_by t w s cells) seen i j
    not_fresh h =
        h
        ∙ by_cases (beside_at w cells i j)
        (λ b. not_new (not-false (get_or seen j false) (rw b at (sym e ∙ h))))
        not_beside

    pub fresh_by :
        v ≡ true → (p q : Point) (d : Float) → leading w p ≡ row w s i → leading w q ≡ row w s j → d ≡ squared (leading w p) (leading w q)
        → lt d (mul binary64 t t) ≡ fresh (near_by t w s cells) seen i j
    fresh_by h =
        by_distance
        (and_left (beside_at w cells i j) (not (get_or seen j false)) (sym e ∙ h))
        (not-true (get_or seen j false) (and_right (beside_at w cells i j) (not (get_or seen j false)) (sym e ∙ h)))

-- what being fresh, or not, says of its two parts
module _ (r : ℕ → ℕ → Bool) (seen : List Bool) (i j : ℕ) where
  pub fresh_near : fresh r seen i j ≡ true → r i j ≡ true
  unfolding fresh
  fresh_near e = and_left (r i j) (not (get_or seen j false)) e

  pub fresh_new : fresh r seen i j ≡ true → get_or seen j false ≡ false
  unfolding fresh
  fresh_new e = not-true (get_or seen j false) (and_right (r i j) (not (get_or seen j false)) e)

  pub fresh_not : fresh r seen i j ≡ false → r i j ≡ true → get_or seen j false ≡ true
  unfolding fresh
  fresh_not e f = not-false (get_or seen j false) (rw f at e)

-- ---- the search, from `from` down to k

pub record Seeking (p : ℕ → Bool) (low from k : ℕ) : Type 0 where
  pub upto : k ≤ from
  pub failed : (j : ℕ) → low ≤ j → k ≤ j → j < from → p j ≡ false
