-- What the functions that look through the order ask and leave. Assumes nothing.
use Rattle.std.specs.Prelude.{◌≡◌, ◌⊎◌, Bool, true, false, ◌&&◌, List, ℕ, ◌-◌, ◌≤◌, ◌<◌, leb, ltb, get_or, Float}
use Rattle.nearby.specs.Engine.{Listed, near_by, fresh}
use Rattle.cellwise.specs.Blocks.{Tables, Begun}

-- whether j is a point from `low` on and below `from` that is near i and not taken
unfoldable pub wanted : Float → ℕ → List Float → List ℕ → List Bool → ℕ → ℕ → ℕ → ℕ → Bool
wanted t w s cells seen i low from j = leb low j && (ltb j from && fresh (near_by t w s cells) seen i j)

-- what looking at point j makes of `best`, one more than the highest wanted point so far: itself, or one more than a wanted point
pub record Better (p : ℕ → Bool) (j best r : ℕ) : Type 0 where
  pub grown : best ≤ r
  pub after : r ≤ j → p j ≡ false
  pub here : (r ≡ best) ⊎ ((0 < r) × (p (r - 1) ≡ true))

-- the same of the points at the places from `fore` to below `rear`
pub record Best (p : ℕ → Bool) (order : List ℕ) (fore rear best r : ℕ) : Type 0 where
  pub grown : best ≤ r
  pub after : (k : ℕ) → fore ≤ k → k < rear → r ≤ get_or order k 0 → p (get_or order k 0) ≡ false
  pub here : (r ≡ best) ⊎ ((0 < r) × (p (r - 1) ≡ true))

-- points with their coordinates, in the order of their cells, and what stands beside it
pub record Placed (w n : ℕ) (s : List Float) (cells order slabs rows runs starts : List ℕ) : Type 0 where
  pub listed : Listed w n s cells
  pub tables : Tables w n cells order slabs rows runs
  pub begun : Begun w n cells order starts
