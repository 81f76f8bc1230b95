-- The examples hold by computation; and of the pocket, whose two faces have the same positions, the verdict does not stay: what the
-- condition is for. Assumes nothing.
use mathlib.Core.Path.{◌≡◌, refl}
use mathlib.Core.Bool.{true, false}
use mathlib.Core.List.{[], ◌∷◌}
use lib.Ieee as ieee
use lib.IntN.{pos}
use lib.Count.{count_trailing_zeros}
use Rattle.floating.specs.Limits.{power, boundless}
use Rattle.floating.specs.Near.{nought}
use Rattle.mesh.specs.Mesh.{faces}
use Rattle.mesh.specs.Table.{mesh_number, shape_number, over_limits, uneven, misfit, ungrouped, astray, short}
use Rattle.verdicts.specs.Edges.{key, edges_of, Irregular, Oriented, Closed, verdict}
use Rattle.splitting.specs.Splitting.{folded_by}
use Rattle.smoothed.specs.Smoothed.{place, middle, edges_by_use, smoothed_faces, smoothed_count, Smoothable, repeated, all_used}
use Rattle.smoothed.specs.Around.{wings, neighbours, along_hem, Corner, Boundary, Inner, condition}
use Rattle.smoothed.specs.Positions.{half, pull, weight, smoothed_positions}
use Rattle.smoothed.specs.Promise.{smoothed_mesh}
use Rattle.smoothed.specs.Refusals.{boundless_position, other_face, folded_or_idle, unoriented, unfit_cosines, too_short, smoothing_number}
use Rattle.smoothed.specs.Examples.{one, one_smoothed, two, two_smoothed, tetrahedron, tetrahedron_smoothed, pocket, comes_to, two_at, two_to, tetrahedron_at, tetrahedron_to, fan, fan_at, fan_to, strip, strip_at, strip_to, triangle, mesh_at, cosines, rooms, number_of, solid, quadrangle, same_way}

pub one_smoothed_lem : (smoothed_faces 3 one ≡ one_smoothed) × (smoothed_count 3 one ≡ 6)
unfolding key place middle edges_by_use smoothed_faces
one_smoothed_lem = (refl, refl)

pub two_smoothed_lem : (smoothed_faces 4 two ≡ two_smoothed) × (smoothed_count 4 two ≡ 9)
unfolding key place middle edges_by_use smoothed_faces
two_smoothed_lem = (refl, refl)

pub tetrahedron_smoothed_lem : (smoothed_faces 4 tetrahedron ≡ tetrahedron_smoothed) × (smoothed_count 4 tetrahedron ≡ 10)
unfolding key place middle edges_by_use smoothed_faces
tetrahedron_smoothed_lem = (refl, refl)

-- each of them can be smoothed, and has no face twice and no idle position
pub two_smoothable : Smoothable 4 two × (repeated two ≡ false) × (all_used 4 two ≡ true)
unfolding folded_by repeated all_used
two_smoothable = (record { triangles = refl; unfolded = refl; within = refl }, refl, refl)

pub tetrahedron_smoothable : Smoothable 4 tetrahedron × (repeated tetrahedron ≡ false) × (all_used 4 tetrahedron ≡ true)
unfolding folded_by repeated all_used
tetrahedron_smoothable = (record { triangles = refl; unfolded = refl; within = refl }, refl, refl)

-- their verdicts, before and after
pub two_verdicts : (verdict (edges_of two) ≡ Oriented) × (verdict (edges_of two_smoothed) ≡ Oriented)
unfolding key verdict
two_verdicts = (refl, refl)

pub tetrahedron_verdicts : (verdict (edges_of tetrahedron) ≡ Closed) × (verdict (edges_of tetrahedron_smoothed) ≡ Closed)
unfolding key verdict
tetrahedron_verdicts = (refl, refl)

-- the pocket is Closed and can be smoothed, but its two faces get the same inner edges, which are then used four times
pub pocket_repeated : Smoothable 3 pocket × (repeated pocket ≡ true)
unfolding folded_by repeated
pocket_repeated = (record { triangles = refl; unfolded = refl; within = refl }, refl)

pub pocket_verdicts : (verdict (edges_of pocket) ≡ Closed) × (verdict (edges_of (smoothed_faces 3 pocket)) ≡ Irregular)
unfolding key verdict place middle edges_by_use smoothed_faces
pocket_verdicts = (refl, refl)

-- ---- what stands around, and where positions come to stand

pub two_around :
    (neighbours two 1 ≡ 2 ∷ 0 ∷ 3 ∷ []) × (condition two 0 ≡ Corner) × (condition two 1 ≡ Boundary 0 3) × (condition two 2 ≡ Boundary 0 3)
unfolding key edges_by_use wings neighbours along_hem condition
two_around = (refl, refl, refl, refl)

pub tetrahedron_around : (neighbours tetrahedron 3 ≡ 2 ∷ 0 ∷ 1 ∷ []) × (condition tetrahedron 3 ≡ Inner)
unfolding key edges_by_use wings neighbours along_hem condition
tetrahedron_around = (refl, refl)

pub fan_around : (neighbours fan 0 ≡ 2 ∷ 1 ∷ 3 ∷ 4 ∷ []) × (condition fan 0 ≡ Inner) × (condition fan 4 ≡ Boundary 3 1)
unfolding key edges_by_use wings neighbours along_hem condition
fan_around = (refl, refl, refl)

pub two_positions : comes_to two 4 two_at two_to ≡ true
unfolding comes_to smoothed_positions pull weight key edges_by_use wings neighbours along_hem condition ieee.add ieee.sub ieee.mul ieee.div ieee.neg ieee.sum ieee.of_int ieee.of_bits ieee.to_bits ieee.of_fields ieee.round ieee.units ieee.odd ieee.size ieee.span ieee.climb count_trailing_zeros
two_positions = refl

pub tetrahedron_positions : comes_to tetrahedron 4 tetrahedron_at tetrahedron_to ≡ true
unfolding comes_to smoothed_positions pull weight key edges_by_use wings neighbours along_hem condition ieee.add ieee.sub ieee.mul ieee.div ieee.neg ieee.sum ieee.of_int ieee.of_bits ieee.to_bits ieee.of_fields ieee.round ieee.units ieee.odd ieee.size ieee.span ieee.climb count_trailing_zeros
tetrahedron_positions = refl

pub fan_positions : comes_to fan 5 fan_at fan_to ≡ true
unfolding comes_to smoothed_positions pull weight key edges_by_use wings neighbours along_hem condition ieee.add ieee.sub ieee.mul ieee.div ieee.neg ieee.sum ieee.of_int ieee.of_bits ieee.to_bits ieee.of_fields ieee.round ieee.units ieee.odd ieee.size ieee.span ieee.climb count_trailing_zeros
fan_positions = refl

pub strip_positions : comes_to strip 5 strip_at strip_to ≡ true
unfolding comes_to smoothed_positions pull weight key edges_by_use wings neighbours along_hem condition ieee.add ieee.sub ieee.mul ieee.div ieee.neg ieee.sum ieee.of_int ieee.of_bits ieee.to_bits ieee.of_fields ieee.round ieee.units ieee.odd ieee.size ieee.span ieee.climb count_trailing_zeros
strip_positions = refl

-- ---- the numbers

-- the tetrahedron is smoothed, with just the room that is stated
pub solid_number :
    (number_of solid ≡ 0) × (smoothing_number solid (cosines 64 half) (cosines 64 half) (rooms 49 193 17) ≡ 0)
unfolding smoothing_number boundless_position boundless other_face folded_or_idle folded_by all_used unoriented verdict key unfit_cosines neighbours edges_by_use smoothed_faces smoothed_mesh smoothed_positions too_short short faces mesh_number shape_number over_limits uneven misfit ungrouped astray ieee.le ieee.lt ieee.eq
solid_number = (refl, refl)

-- 7: a coordinate that is no number; 15: a quadrangle; 16: a folded face, a position in no face; 10: an edge twice the same way
pub other_numbers :
    (number_of (mesh_at ieee.nan 4 tetrahedron) ≡ 7)
    × (number_of (mesh_at nought 4 (quadrangle ∷ [])) ≡ 15)
    × (number_of (mesh_at nought 2 (triangle 0 1 1 ∷ [])) ≡ 16)
    × (number_of (mesh_at nought 4 one) ≡ 16)
    × (number_of (mesh_at nought 4 same_way) ≡ 10)
unfolding smoothing_number boundless_position boundless other_face folded_or_idle folded_by all_used unoriented verdict key unfit_cosines neighbours edges_by_use smoothed_faces smoothed_mesh smoothed_positions too_short short faces mesh_number shape_number over_limits uneven misfit ungrouped astray ieee.le ieee.lt ieee.eq
other_numbers = (refl, refl, refl, refl, refl)

-- 17: a list of 63, a cosine of 2 or that is no number; 9: one place too few; and 17 goes before 9
pub lent_numbers :
    (smoothing_number solid (cosines 63 half) (cosines 64 half) (rooms 48 192 16) ≡ 17)
    × (smoothing_number solid (cosines 64 half) (cosines 64 (power (pos 1))) (rooms 48 192 16) ≡ 17)
    × (smoothing_number solid (cosines 64 ieee.nan) (cosines 64 half) (rooms 48 192 16) ≡ 17)
    × (smoothing_number solid (cosines 64 half) (cosines 64 half) (rooms 47 192 16) ≡ 9)
    × (smoothing_number solid (cosines 63 half) (cosines 64 half) (rooms 47 192 16) ≡ 17)
    × (smoothing_number solid (cosines 64 half) (cosines 64 half) (rooms 48 191 16) ≡ 9)
    × (smoothing_number solid (cosines 64 half) (cosines 64 half) (rooms 48 192 15) ≡ 9)
    × (smoothing_number solid (cosines 64 (ieee.fin true 1 (pos 0))) (cosines 64 (power (pos 0))) (rooms 48 192 16) ≡ 0)
    × (smoothing_number solid (cosines 64 half) (cosines 65 half) (rooms 48 192 16) ≡ 17)
    × (smoothing_number (mesh_at nought 0 []) (cosines 64 half) (cosines 64 half) (rooms 0 0 0) ≡ 0)
    × (smoothing_number (mesh_at nought 1 []) (cosines 64 half) (cosines 64 half) (rooms 0 0 0) ≡ 16)
unfolding smoothing_number boundless_position boundless other_face folded_or_idle folded_by all_used unoriented verdict key unfit_cosines neighbours edges_by_use smoothed_faces smoothed_mesh smoothed_positions too_short short faces mesh_number shape_number over_limits uneven misfit ungrouped astray ieee.le ieee.lt ieee.eq
lent_numbers = (refl, refl, refl, refl, refl, refl, refl, refl, refl, refl, refl)
