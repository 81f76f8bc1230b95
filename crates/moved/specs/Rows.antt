-- The positions that smoothing gives, as rows of numbers have them: an entry for each position, or for each edge. What the rows are of
-- a mesh stands in smoothed's Columns; then these are its rules. Assumes nothing.
use Rattle.std.specs.Prelude.{◌≡◌, ℕ, ◌+◌, ◌*◌, ◌<◌, ◌≤◌, cond, List, length, ◌==◌, ◌≢◌, slice_index, Float}
use Rattle.std.specs.Float.{binary64}
use Rattle.std.specs.Float.Ieee.{sub}
use Rattle.lists.specs.Lists.{each, span}
use Rattle.mesh.specs.Limits.{point_width}
use Rattle.mesh.specs.Mesh.{missing}
use Rattle.smoothed.specs.Around.{Condition, Corner, Boundary, Inner}
use Rattle.smoothed.specs.Positions.{coordinate, axes, cosine, spread, weight, quartered, five_eighths, half}
use Rattle.moved.specs.Axis.{bent, drawn, halfway, winged}

-- a position's condition, from how many neighbours it has and its first two along a hem: the second is missing where there aren't two
unfoldable pub condition_at : ℕ → ℕ → ℕ → Condition
condition_at d x y = cond (y == missing) Inner (cond (d == 2) Corner (Boundary x y))

-- ---- old positions, by how many neighbours each has (ds), its hem neighbours (first and second) and its sums (pulls)

module _ (ps : List Float) (ds first second : List ℕ) (pulls twos : List Float) where
  abbrev pub moved_as : Condition → ℕ → ℕ → Float
  moved_as Corner a v = coordinate ps a v
  moved_as (Boundary x y) a v = bent (coordinate ps a v) (coordinate ps a x) (coordinate ps a y)
  moved_as Inner a v = drawn (weight twos (slice_index ds v)) (coordinate ps a v) (coordinate pulls a v)

  unfoldable pub moved_at : ℕ → ℕ → Float
  moved_at a v = moved_as (condition_at (slice_index ds v) (slice_index first v) (slice_index second v)) a v

  unfoldable pub moved_list : List Float
  moved_list = each (λ v. axes (λ a. moved_at a v)) (span 0 (length ds))

-- ---- one position for each edge, by its ends (lowers and highers), its wings (firsts and seconds) and how many it has (wings)

-- how far along an edge with two wings, from v to w; neither is a corner then
unfoldable pub share_at : List ℕ → List ℕ → List Float → ℕ → ℕ → Float
share_at ds second ones v w =
    cond (slice_index second v == missing)
    (cond (slice_index second w == missing) half (spread (cosine ones (slice_index ds w))))
    (sub binary64 five_eighths (quartered (cosine ones (slice_index ds v))))

module _ (ps : List Float) (lowers highers firsts seconds wings ds second : List ℕ) (ones : List Float) where
  unfoldable pub middle_at : ℕ → ℕ → Float
  middle_at a e =
      cond (1 == slice_index wings e)
      (halfway (coordinate ps a (slice_index lowers e)) (coordinate ps a (slice_index highers e)))
      (winged
      (share_at ds second ones (slice_index lowers e) (slice_index highers e))
      (coordinate ps a (slice_index lowers e))
      (coordinate ps a (slice_index highers e))
      (coordinate ps a (slice_index firsts e))
      (coordinate ps a (slice_index seconds e)))

  unfoldable pub middle_list : List Float
  middle_list = each (λ e. axes (λ a. middle_at a e)) (span 0 (length lowers))

-- ---- what the code asks of its rows

-- each position has a neighbour, and there is a cosine for as many as it has
pub record Counted (ds second : List ℕ) (cosines : List Float) : Type 0 where
  pub seconds : length second ≡ length ds
  pub some : (v : ℕ) → v < length ds → 1 ≤ slice_index ds v
  pub few : (v : ℕ) → v < length ds → slice_index ds v ≤ length cosines

-- besides, points, sums, and hem neighbours that are positions unless they are missing
pub record Movable (ps : List Float) (ds first second : List ℕ) (pulls twos : List Float) : Type 0 where
  pub counted : Counted ds second twos
  pub points : length ps ≡ point_width * length ds
  pub firsts : length first ≡ length ds
  pub sums : length pulls ≡ point_width * length ds
  pub first_below : (v : ℕ) → v < length ds → (slice_index second v ≢ missing) → slice_index first v < length ds
  pub second_below : (v : ℕ) → v < length ds → (slice_index second v ≢ missing) → slice_index second v < length ds

-- an entry for each edge, a position of n
pub record PositionRow (edges n : ℕ) (row : List ℕ) : Type 0 where
  pub long : length row ≡ edges
  pub below : (e : ℕ) → e < edges → slice_index row e < n

-- besides, points, and each edge's ends, wings and how many it has
pub record Halvable (ps : List Float) (lowers highers firsts seconds wings ds second : List ℕ) (ones : List Float) : Type 0 where
  pub counted : Counted ds second ones
  pub points : length ps ≡ point_width * length ds
  pub lower : PositionRow (length lowers) (length ds) lowers
  pub higher : PositionRow (length lowers) (length ds) highers
  pub first_wing_is : PositionRow (length lowers) (length ds) firsts
  pub second_wing_is : PositionRow (length lowers) (length ds) seconds
  pub counts : length wings ≡ length lowers

-- room for n points behind so many others
abbrev pub Room : List Float → ℕ → ℕ → Type 0
Room out at n = point_width * (at + n) ≤ length out
