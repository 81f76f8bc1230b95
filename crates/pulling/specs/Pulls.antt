-- How far the neighbours of each position lie from it, by the rows that hold the edges, and the steps of the code. Assumes nothing.
use Rattle.std.specs.Prelude.{◌≡◌, List, [], ◌∷◌, map, ℕ, ◌+◌, ◌*◌, ◌/◌, ◌%◌, ◌≤◌, ◌<◌, length, get_or, Float}
use Rattle.std.specs.Float.{nan, binary64}
use Rattle.std.specs.Float.Ieee.{add, sub}
use Rattle.lists.specs.Lists.{each, span}
use Rattle.mesh.specs.Limits.{point_width}
use Rattle.verdicts.specs.Edges.{Edge}
use Rattle.floating.specs.Near.{nought}
use Rattle.smoothed.specs.Positions.{total_from, from, axes}
use Rattle.around.specs.Rows.{neighbours_in, EdgeRows}

-- for each of n positions, on each axis: how far all its neighbours lie from it, added up in their order
unfoldable pub pulls_in : List Edge → List Float → ℕ → List Float
pulls_in es ps n = each (λ v. axes (λ a. total_from nought (map (from ps a v) (neighbours_in es v)))) (span 0 n)

-- edges of positions, with their coordinates, and as many sums
pub record PullRows (ps : List Float) (ls hs : List ℕ) (sums : List Float) : Type 0 where
  pub whole : length ps % point_width ≡ 0
  pub edges : EdgeRows (length ps / point_width) ls hs
  pub sums_long : length sums ≡ length ps

-- ---- the steps of the code

-- a sum that stands at i of a flat list moves on by how far number j of the flat positions lies from number i
abbrev pub tug : List Float → ℕ → ℕ → Float → Float
tug ps i j t = add binary64 t (sub binary64 (get_or ps j nan) (get_or ps i nan))

-- an edge of positions as three edges of numbers of flat lists, one on each axis
abbrev pub on_axis : ℕ → Edge → Edge
on_axis a k = (point_width * k.0 + a, point_width * k.1 + a)

abbrev pub threefold : Edge → List Edge
threefold k = on_axis 0 k ∷ on_axis 1 k ∷ on_axis 2 k ∷ []

-- numbers for i and j, and for each axis of a and b
pub record PullAt (i j : ℕ) (ps sums : List Float) : Type 0 where
  pub long : length sums ≡ length ps
  pub first_below : i < length ps
  pub second_below : j < length ps

pub record PairAt (a b : ℕ) (ps sums : List Float) : Type 0 where
  pub long : length sums ≡ length ps
  pub first_fits : point_width * a + point_width ≤ length ps
  pub second_fits : point_width * b + point_width ≤ length ps
