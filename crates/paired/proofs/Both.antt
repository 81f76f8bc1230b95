-- Being beside goes both ways, each is beside itself, and points of the same cells are beside the same. Assumes nothing.
use mathlib.Core.Path.{◌≡◌, refl, ap₂}
use mathlib.Core.Bool.{Bool, true, false, ◌&&◌}
use mathlib.Core.List.{List, [], ◌∷◌}
use Prim.Native.Nat.{ℕ, ◌+◌, ◌≤◌, ◌<◌}
use native.Mathlib.Omega.{arith}
use lib.Dec.{leb}
use borrow.Author.Tests.{le-leb, lt-leb}
use Rattle.lists.proofs.Bools.{and_both}
use Rattle.floating.specs.Cells.{beside, besides}
use Rattle.floating.specs.Points.{row}
use Rattle.nearby.specs.Engine.{beside_at}

and_swap : (a b : Bool) → (a && b) ≡ (b && a)
and_swap true true = refl
and_swap true false = refl
and_swap false true = refl
and_swap false false = refl

besides_both : (xs ys : List ℕ) → besides xs ys ≡ besides ys xs
besides_both [] [] = refl
besides_both [] (y ∷ ys) = refl
besides_both (x ∷ xs) [] = refl
besides_both (x ∷ xs) (y ∷ ys) = ap₂ ◌&&◌ (and_swap (leb x (y + 2)) (leb y (x + 2))) (besides_both xs ys)

besides_self : (xs : List ℕ) → besides xs xs ≡ true
besides_self [] = refl
besides_self (x ∷ xs) =
    and_both (beside x x) (besides xs xs) (and_both (leb x (x + 2)) (leb x (x + 2)) (le-leb x (x + 2) (omega arith)) (le-leb x (x + 2) (omega arith))) (besides_self xs)

pub beside_both : (w : ℕ) (cells : List ℕ) (i j : ℕ) → beside_at w cells i j ≡ beside_at w cells j i
unfolding beside_at
beside_both w cells i j = besides_both (row w cells i) (row w cells j)

pub beside_self : (w : ℕ) (cells : List ℕ) (i : ℕ) → beside_at w cells i i ≡ true
unfolding beside_at
beside_self w cells i = besides_self (row w cells i)

-- two cells, by how far they are apart
pub too_low : (a b : ℕ) → b + 2 < a → beside a b ≡ false
too_low a b h = rw (lt-leb a (b + 2) h)

pub too_high : (a b : ℕ) → a + 2 < b → beside a b ≡ false
too_high a b h = rw (le-leb a (b + 2) (omega arith), lt-leb b (a + 2) h)

pub in_reach : (a b : ℕ) → a ≤ b + 2 → b ≤ a + 2 → beside a b ≡ true
in_reach a b h l = rw (le-leb a (b + 2) h, le-leb b (a + 2) l)
