-- The number that smoothing returns, row by row, as document 02, 'CR 4', has it: after 5 come 7, 15, 16, 10, 17, 1 and 9. Assumes
-- nothing.
use Rattle.std.specs.Prelude.{Bool, true, false, not, ◌&&◌, ◌||◌, List, [], ◌∷◌, ℕ, ◌+◌, ◌*◌, ◌/◌, length, ltb, eqb, pos, Float}
use Rattle.std.specs.Float.{fin}
use Rattle.std.specs.Float.Ieee.{le}
use Rattle.lists.specs.Lists.{some, span}
use Rattle.mesh.specs.Limits.{point_width, width, least_ring}
use Rattle.mesh.specs.Mesh.{Mesh, faces, position_count}
use Rattle.mesh.specs.Table.{when, first_of, over_limits, mesh_number, lent, short}
use Rattle.verdicts.specs.Edges.{edges_of, Verdict, Irregular, Regular, Oriented, Closed, verdict}
use Rattle.folding.specs.Folding.{folded}
use Rattle.floating.specs.Limits.{power, boundless}
use Rattle.smoothed.specs.Smoothed.{fold, all_used}
use Rattle.smoothed.specs.Promise.{smoothed_mesh}
use Rattle.smoothed.specs.Around.{neighbours}
use Rattle.smoothed.specs.Positions.{smoothed_positions}

-- 7: a coordinate is not finite, or its magnitude is above 2^60; positions only
unfoldable pub boundless_position : Mesh → Bool
boundless_position m = some boundless m.positions

-- 15: a face isn't a triangle
unfoldable pub other_face : Mesh → Bool
other_face m = some (λ k. not (eqb k least_ring)) m.sizes

-- 16: a face is folded or a position is in no face
unfoldable pub folded_or_idle : Mesh → Bool
folded_or_idle m = some folded (faces m) || not (all_used (position_count m) (faces m))

-- 10: verdict not Oriented or Closed
abbrev pub oriented : Verdict → Bool
oriented Irregular = false
oriented Regular = false
oriented Oriented = true
oriented Closed = true

unfoldable pub unoriented : Mesh → Bool
unoriented m = not (oriented (verdict (edges_of (faces m))))

-- 17: a cosine list isn't 64 long or holds a value not within -1 to 1, or a position has over 64 neighbours
abbrev pub cosine_count : ℕ
cosine_count = 64

abbrev pub within_one : Float → Bool
within_one c = le (fin true 1 (pos 0)) c && le c (power (pos 0))

abbrev pub unfit_list : List Float → Bool
unfit_list cs = not (eqb (length cs) cosine_count) || some (λ c. not (within_one c)) cs

abbrev pub crowded : Mesh → ℕ → Bool
crowded m v = ltb cosine_count (length (neighbours (faces m) v))

unfoldable pub unfit_cosines : Mesh → List Float → List Float → Bool
unfit_cosines m ones twos = unfit_list ones || (unfit_list twos || some (crowded m) (span 0 (position_count m)))

-- the positions and the mesh that smoothing gives
abbrev pub positions_of : Mesh → List Float → List Float → List Float
positions_of m ones twos = smoothed_positions (faces m) m.positions ones twos (position_count m)

abbrev pub result_of : Mesh → List Float → List Float → Mesh
result_of m ones twos = smoothed_mesh m (positions_of m ones twos)

-- the lists that are lent for the result, at one moment
pub record Result : Type 0 where
  pub positions : List Float
  pub corners : List ℕ
  pub sizes : List ℕ

abbrev pub lists : List Float → List ℕ → List ℕ → Result
lists p c s = record { positions = p; corners = c; sizes = s }

-- 9: stated room, by the input's own lengths: a point for each position and one for each corner, since no corner begins more than one
-- edge; four corners for each corner; four sizes for each size
unfoldable pub too_short : Mesh → Result → Bool
too_short m r =
    short
    (lent (length r.positions) (point_width * (position_count m + length m.corners / width))
    ∷ lent (length r.corners) (fold * length m.corners)
    ∷ lent (length r.sizes) (fold * length m.sizes)
    ∷ [])

unfoldable pub smoothing_number : Mesh → List Float → List Float → Result → ℕ
smoothing_number m ones twos r =
    first_of
    (mesh_number m
    ∷ when (boundless_position m) 7
    ∷ when (other_face m) 15
    ∷ when (folded_or_idle m) 16
    ∷ when (unoriented m) 10
    ∷ when (unfit_cosines m ones twos) 17
    ∷ when (over_limits (result_of m ones twos)) 1
    ∷ when (too_short m r) 9
    ∷ [])
