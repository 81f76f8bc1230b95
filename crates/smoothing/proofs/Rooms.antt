-- How long the lists of a smoothed mesh are, and that they fit into the stated room. Assumes nothing.
use Rattle.std.proofs.Common.{◌≡◌, refl, true, false, ◌||◌, List, [], ◌∷◌, ℕ, ◌+◌, ◌*◌, ◌/◌, ◌≤◌, arith, length, ltb, eqb, Float, ltb-false, eqb-true}
use lib.ListN.{length-map}
use Rattle.lists.specs.Lists.{every, sum}
use Rattle.lists.proofs.Bools.{and_left, and_right, or_false_left, or_false_right}
use Rattle.mesh.specs.Limits.{point_width, width, least_ring}
use Rattle.mesh.specs.Mesh.{Mesh, faces, position_count}
use Rattle.mesh.specs.Table.{mesh_number, short}
use Rattle.mesh.proofs.Accepted.{accepted}
use Rattle.mesh.proofs.Faces.{length_rings}
use Rattle.smoothed.specs.Smoothed.{fold, smoothed_faces, smoothed_count}
use Rattle.smoothed.specs.Promise.{smoothed_mesh, Given}
use Rattle.smoothed.specs.Refusals.{Result, too_short, result_of}
use Rattle.smoothed.proofs.Limits.{edges_few, faces_four}
use Rattle.smoothed.proofs.Positions.{positions_fit}

-- what the stated room is
pub record Roomy (m : Mesh) (r : Result) : Type 0 where
  pub positions : point_width * (position_count m + length m.corners / width) ≤ length r.positions
  pub corners : fold * length m.corners ≤ length r.corners
  pub sizes : fold * length m.sizes ≤ length r.sizes

pub roomy : (m : Mesh) (r : Result) → too_short m r ≡ false → Roomy m r
unfolding too_short short
roomy m r e =
    let p = ltb (length r.positions) (point_width * (position_count m + length m.corners / width)) in
    let c = ltb (length r.corners) (fold * length m.corners) in
    let s = ltb (length r.sizes) (fold * length m.sizes) in
    let cs : (c || (s || false)) ≡ false = or_false_right p (c || (s || false)) e in
    record {
      positions = ltb-false _ _ (or_false_left p (c || (s || false)) e);
      corners = ltb-false _ _ (or_false_left c (s || false) cs);
      sizes = ltb-false _ _ (or_false_left s false (or_false_right c (s || false) cs));
    }

-- triangles alone: three corners for each size
pub sum_threes : (s : List ℕ) → every (λ k. eqb k least_ring) s ≡ true → sum s ≡ least_ring * length s
sum_threes [] h = refl
sum_threes (n ∷ s) h =
    let e : n ≡ least_ring = eqb-true n least_ring (and_left (eqb n least_ring) (every (λ k. eqb k least_ring) s) h) in
    let r : sum s ≡ least_ring * length s = sum_threes s (and_right (eqb n least_ring) (every (λ k. eqb k least_ring) s) h) in
    omega arith

module _ (m : Mesh) (ones twos : List Float) (g : Given m) where
  face_count : length (faces m) ≡ length m.sizes
  unfolding faces
  face_count = length_rings m.sizes m.corners

  pub corners_long : length m.corners ≡ width * (least_ring * length m.sizes)
  corners_long = omega (arith, (accepted m g.accepted).sound.adds, sum_threes m.sizes g.triangles)

  abbrev round : Mesh
  round = result_of m ones twos

  -- the smoothed mesh has three coordinates for each position and for each edge, and four sizes for each
  pub positions_long : length round.positions ≡ point_width * smoothed_count (position_count m) (faces m)
  unfolding smoothed_mesh
  positions_long = positions_fit (faces m) m.positions ones twos (position_count m)

  pub sizes_long : length round.sizes ≡ fold * length m.sizes
  unfolding smoothed_mesh
  sizes_long =
      omega (arith, length-map (smoothed_faces (position_count m) (faces m)) length, faces_four (position_count m) (faces m), face_count)

  pub positions_fits : length round.positions ≤ point_width * (position_count m + length m.corners / width)
  positions_fits =
      let c : length m.corners / width ≡ least_ring * length m.sizes = omega (arith, corners_long) in
      omega (arith, positions_long, edges_few (faces m), face_count, c)

  module _ (ok : mesh_number round ≡ 0) (t : every (λ k. eqb k least_ring) round.sizes ≡ true) where
    pub corners_fits : length round.corners ≡ fold * length m.corners
    corners_fits =
        omega (arith, (accepted round ok).sound.adds, sum_threes round.sizes t, sizes_long, corners_long)
