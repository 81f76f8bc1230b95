-- What is written down beside an order of points by cell, so that points that cannot be compared are passed over many at a time.
-- Assumes nothing.
use Rattle.std.specs.Prelude.{List, ℕ, ◌+◌, ◌≤◌, ◌<◌, length, get_or}
use Rattle.floating.specs.Cells.{reach}
use Rattle.cellwise.specs.Order.{cell_at, Alike, ByCell}

-- r is a place behind p up to which the points are alike on the first k axes
pub record EndOf (w n k : ℕ) (cells order : List ℕ) (p r : ℕ) : Type 0 where
  pub behind : p < r
  pub inside : r ≤ n
  pub alike : (q : ℕ) → p ≤ q → q < r → Alike w cells k (get_or order p 0) (get_or order q 0)

-- for each place of the order such a place
pub record Blocks (w n k : ℕ) (cells order ends : List ℕ) : Type 0 where
  pub room : n ≤ length ends
  pub each : (p : ℕ) → p < n → EndOf w n k cells order p (get_or ends p 0)

-- on the way: for each from p on
pub record Ending (w n k : ℕ) (cells order ends : List ℕ) (p : ℕ) : Type 0 where
  pub room : n ≤ length ends
  pub upto : p ≤ n
  pub each : (q : ℕ) → p ≤ q → q < n → EndOf w n k cells order q (get_or ends q 0)

-- all points before the place s are too low on the first axis to be compared with point i
pub record Low (w n : ℕ) (cells order : List ℕ) (i s : ℕ) : Type 0 where
  pub inside : s ≤ n
  pub low : (k : ℕ) → k < s → cell_at w cells 0 (get_or order k 0) + reach < cell_at w cells 0 i

-- for each point such a place
pub record Begun (w n : ℕ) (cells order starts : List ℕ) : Type 0 where
  pub room : n ≤ length starts
  pub low : (i : ℕ) → i < n → Low w n cells order i (get_or starts i 0)

-- points by cell; those alike on the first axis, on the first two, on all
pub record Tables (w n : ℕ) (cells order slabs rows runs : List ℕ) : Type 0 where
  pub by_cell : ByCell w n cells order
  pub slab_ends : Blocks w n 1 cells order slabs
  pub row_ends : Blocks w n 2 cells order rows
  pub run_ends : Blocks w n w cells order runs
