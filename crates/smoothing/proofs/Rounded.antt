-- Where the call answers 0, the mesh that it hands over is the smoothed mesh, and so all that is promised of that holds of it. Assumes nothing.
use Rattle.std.proofs.Common.{◌≡◌, sym, ◌∙◌, true, List, ◌*◌, ◌/◌, arith, length, eqb, Float}
use Rattle.lists.specs.Lists.{every}
use Rattle.lists.proofs.Fronts.{front}
use Rattle.lists.proofs.Mapping.{every_map}
use Rattle.lists.specs.Putting.{Front}
use Rattle.mesh.specs.Limits.{point_width, width, least_ring}
use Rattle.mesh.specs.Mesh.{Mesh, faces, position_count}
use Rattle.mesh.proofs.Accepted.{Accepted, accepted}
use Rattle.mesh.proofs.After.{after_done}
use Rattle.smoothed.specs.Smoothed.{smoothed_faces}
use Rattle.smoothed.specs.Promise.{smoothed_mesh, Given, Promised}
use Rattle.smoothed.specs.Refusals.{Result, smoothing_number, positions_of, result_of}
use Rattle.smoothed.proofs.Again.{smoothed_again}
use Rattle.smoothed.proofs.Meshwise.{mesh_smoothable}
use Rattle.smoothed.proofs.Refusals.{passed, zero_given, zero_promised}
use Rattle.smoothing.specs.declared.Smoothed.{Smoothed}
use Rattle.smoothing.specs.Smoothing.{Smoothing}
use Rattle.smoothing.specs.Promises.{handed_over, Rounded, SmoothedIsRounded}
use Rattle.smoothing.proofs.Rooms.{Roomy, roomy, positions_fits, sizes_long, corners_fits}

-- all its faces are triangles
pub round_triangles : (m : Mesh) (ones twos : List Float) → Given m → every (λ k. eqb k least_ring) (result_of m ones twos).sizes ≡ true
unfolding smoothed_mesh
round_triangles m ones twos g =
    every_map length (λ k. eqb k least_ring) (smoothed_faces (position_count m) (faces m))
    ∙ (smoothed_again (position_count m) (faces m) (mesh_smoothable m g)).triangles

module _ (m : Mesh) (ones twos : List Float) (before left : Result) (answer : Smoothed)
    (h : Smoothing m ones twos before left answer) (z : answer.number ≡ 0) where
  zero : smoothing_number m ones twos before ≡ 0
  zero = sym h.number ∙ z

  g : Given m
  g = zero_given m ones twos before zero

  p : Promised m (positions_of m ones twos)
  p = zero_promised m ones twos before zero

  room : Roomy m before
  room = roomy m before (passed m ones twos before zero).room

  abbrev round : Mesh
  round = result_of m ones twos

  a : Accepted round
  a = accepted round p.accepted

  positions_front : Front left.positions round.positions (point_width * answer.positions)
  positions_front =
      let n : answer.positions ≡ position_count round = h.position_count_is ∙ after_done answer.number _ 0 z in
      front before.positions (h.positions ∙ after_done answer.number _ _ z) (omega (arith, n, a.whole.positions))
      (omega (arith, n, positions_fits m ones twos g, room.positions))

  corners_front : Front left.corners round.corners (width * answer.corners)
  corners_front =
      let n : answer.corners ≡ length round.corners / width = h.corner_count_is ∙ after_done answer.number _ 0 z in
      front before.corners (h.corners ∙ after_done answer.number _ _ z) (omega (arith, n, a.whole.corners))
      (omega (arith, n, corners_fits m ones twos g p.accepted (round_triangles m ones twos g), room.corners))

  sizes_front : Front left.sizes round.sizes answer.faces
  sizes_front =
      let n : answer.faces ≡ length round.sizes = h.face_count ∙ after_done answer.number _ 0 z in
      front before.sizes (h.sizes ∙ after_done answer.number _ _ z) (sym n) (omega (arith, n, sizes_long m ones twos g, room.sizes))

  handed_is : handed_over m left answer ≡ round
  unfolding smoothed_mesh
  handed_is = rw (positions_front.is, corners_front.is, sizes_front.is)

  rounded : Rounded m round
  rounded = record {
    accepted = p.accepted;
    fourfold = sizes_long m ones twos g;
    unfolded = p.unfolded;
    used = p.used;
    marks = p.marks;
    same_verdict = p.same_verdict;
    unlike = p.unlike;
  }

  all_rounded : Rounded m (handed_over m left answer)
  all_rounded = rw handed_is rounded

pub smoothed_is_rounded : SmoothedIsRounded
smoothed_is_rounded m ones twos before left answer h z = all_rounded m ones twos before left answer h z
