-- What demand 3 does not say, by computation: of a folded ring that is begun elsewhere other faces are left, and after compaction the same
-- hem has other numbers. Assumes nothing.
use mathlib.Core.Path.{◌≡◌, refl, ap}
use mathlib.Core.Bool.{false}
use mathlib.Core.List.{List, [], ◌∷◌, map}
use Prim.Native.Nat.{ℕ}
use native.Mathlib.Omega.{arith}
use lib.ListN.{length, length-map}
use Rattle.lists.specs.Lists.{some}
use Rattle.lists.specs.Numbers.{seek}
use Rattle.lists.specs.FirstUses.{first_uses, place}
use Rattle.mesh.specs.Mesh.{Mesh, position, faces}
use Rattle.mesh.specs.Table.{over_limits, uneven, misfit, ungrouped, astray, shape_number, mesh_number}
use Rattle.grouping.specs.Push.{pushed}
use Rattle.splitting.specs.Splitting.{mate_of, first_mated, folded_by, split_by_in, split_by, pieces_by}
use Rattle.folding.specs.Folding.{folded, triangle_pieces, fold_of, quadrangle_pieces, pieces}
use Rattle.removal.specs.Folded.{removed}
use Rattle.unused.specs.Compaction.{renumber, entries, used_positions, used_textures, used_normals, renumbered, compacted}
use Rattle.edges.specs.Edges.{key, verdict, hems}
use Rattle.turning.specs.Turning.{turn_from, onward_in, onward, trail, trails_in, house_wires}
use Rattle.order.specs.Same.{Same, none, face, swap}
use Rattle.calls.specs.Promises.{CleaningNotKept}
use Rattle.calls.specs.Begun.{hems_of, as_drawn, one_later, two_panels, other_first, touching, touching_later, TouchingHems}
use Rattle.calls.proofs.Counts.{same_length}

-- ---- the ring (0,1,2,0,3,1), and the same ring begun one corner later

pub both_accepted : (mesh_number as_drawn ≡ 0) × (mesh_number one_later ≡ 0)
unfolding mesh_number shape_number over_limits uneven misfit ungrouped astray
both_accepted = (refl, refl)

pub one_ring : Same (faces as_drawn) (faces one_later)
unfolding faces
one_ring = face (1, refl) none

-- the positions of the faces that are left: two triangles of the one, one face of four corners of the other
abbrev pub faces_left : Mesh → List (List ℕ)
faces_left m = map (map position) (removed (faces m))

pub two_triangles : faces_left as_drawn ≡ (0 ∷ 1 ∷ 2 ∷ []) ∷ (0 ∷ 3 ∷ 1 ∷ []) ∷ []
unfolding faces removed pushed pieces pieces_by split_by split_by_in folded_by first_mated mate_of quadrangle_pieces fold_of triangle_pieces seek
two_triangles = refl

pub one_of_four : faces_left one_later ≡ (1 ∷ 2 ∷ 0 ∷ 3 ∷ []) ∷ []
unfolding faces removed pushed pieces pieces_by split_by split_by_in folded_by first_mated mate_of quadrangle_pieces fold_of triangle_pieces seek
one_of_four = refl

-- so it is not true that removal leaves the same faces of the same faces
pub cleaning_not_kept : CleaningNotKept
cleaning_not_kept kept =
    let e : length (removed (faces as_drawn)) ≡ length (removed (faces one_later)) =
    same_length (kept as_drawn one_later both_accepted.0 both_accepted.1 one_ring) in
    let a : length (faces_left as_drawn) ≡ length (removed (faces as_drawn)) = length-map (removed (faces as_drawn)) (map position) in
    let b : length (faces_left one_later) ≡ length (removed (faces one_later)) = length-map (removed (faces one_later)) (map position) in
    omega (arith, ap length two_triangles, ap length one_of_four)

-- ---- two triangles, neither folded, and the same two exchanged

pub both_unfolded : (some folded (faces two_panels) ≡ false) × (some folded (faces other_first) ≡ false)
unfolding faces folded_by
both_unfolded = (refl, refl)

pub exchanged_same : Same (faces two_panels) (faces other_first)
unfolding faces
exchanged_same = swap

-- the hem in the file's own numbers, which is one
pub own_numbers : (hems_of two_panels ≡ (0 ∷ 1 ∷ 2 ∷ 3 ∷ []) ∷ []) × (hems_of other_first ≡ (0 ∷ 1 ∷ 2 ∷ 3 ∷ []) ∷ [])
unfolding faces hems key house_wires trails_in trail onward onward_in turn_from
own_numbers = (refl, refl)

-- and in the numbers by first use
pub numbers_by_first_use :
    (hems_of (compacted two_panels) ≡ (0 ∷ 1 ∷ 2 ∷ 3 ∷ []) ∷ []) × (hems_of (compacted other_first) ≡ (0 ∷ 3 ∷ 1 ∷ 2 ∷ []) ∷ [])
unfolding faces hems key house_wires trails_in trail onward onward_in turn_from compacted renumbered used_positions used_textures used_normals entries renumber place first_uses
numbers_by_first_use = (refl, refl)

-- ---- two triangles and a third that touches them, and the last two exchanged

touching_accepted : (mesh_number touching ≡ 0) × (mesh_number touching_later ≡ 0)
unfolding mesh_number shape_number over_limits uneven misfit ungrouped astray
touching_accepted = (refl, refl)

two_in_either :
    (hems_of (compacted touching) ≡ (0 ∷ 1 ∷ 2 ∷ 3 ∷ []) ∷ (2 ∷ 4 ∷ 5 ∷ []) ∷ [])
    × (hems_of (compacted touching_later) ≡ (0 ∷ 1 ∷ 2 ∷ 5 ∷ []) ∷ (2 ∷ 3 ∷ 4 ∷ []) ∷ [])
unfolding faces hems key house_wires trails_in trail onward onward_in turn_from compacted renumbered used_positions used_textures used_normals entries renumber place first_uses
two_in_either = (refl, refl)

pub touching_hems : TouchingHems
unfolding folded_by faces verdict hems key house_wires trails_in trail onward onward_in turn_from
touching_hems = record {
  both_accepted = touching_accepted;
  both_unfolded = (refl, refl);
  same_faces = face (0, refl) swap;
  both_oriented = (refl, refl);
  own_hems = refl;
  own_hems_later = refl;
  two_hems = two_in_either.0;
  still_two = two_in_either.1;
}
