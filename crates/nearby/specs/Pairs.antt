-- The points of a flat list by their numbers: which are compared, which are near, and how many pairs are compared, as document 01,
-- 'Merging', has it. One rule over the width w. Assumes nothing.
use Rattle.std.specs.Prelude.{Bool, List, ℕ, zero, suc, ◌+◌, ◌/◌, length, Float}
use Rattle.lists.specs.Numbers.{count_below}
use Rattle.floating.specs.Points.{row}
use Rattle.floating.specs.Cells.{compared}
use Rattle.floating.specs.Near.{near}

-- how many pairs of numbers below n pass, each unordered pair once
unfoldable pub pairs : (ℕ → ℕ → Bool) → ℕ → ℕ
unfolding count_below
pairs r zero = 0
pairs r (suc j) = pairs r j + count_below (λ i. r i j) j

-- whether points i and j of the list s are compared, and whether they are near, at the tolerance t
abbrev pub compared_at : Float → ℕ → List Float → ℕ → ℕ → Bool
compared_at t w s i j = compared t (row w s i) (row w s j)

abbrev pub near_at : Float → ℕ → List Float → ℕ → ℕ → Bool
near_at t w s i j = near t (row w s i) (row w s j)

-- merging reports how many pairs it compared, each unordered pair once
unfoldable pub compared_pairs : Float → ℕ → List Float → ℕ
unfolding pairs
compared_pairs t w s = pairs (compared_at t w s) (length s / w)
