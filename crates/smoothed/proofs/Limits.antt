-- How many faces and positions there are after smoothing: over 341 faces are too many, and no more positions than fit come of 341
-- or fewer where each position is used. Assumes nothing.
use mathlib.Core.Path.{◌≡◌, refl, ap, ◌∙◌}
use mathlib.Core.Bool.{true, not, ◌||◌}
use mathlib.Core.List.{List, [], ◌∷◌, map}
use Prim.Native.Nat.{ℕ, zero, suc, ◌*◌, ◌≤◌, ◌<◌}
use native.Mathlib.Omega.{arith}
use lib.ListN.{length, length-map}
use lib.Dec.{ltb, eqb}
use lib.Ieee.{Float}
use borrow.Author.Tests.{ne_eqb, lt-ltb}
use Rattle.lists.specs.Lists.{only, joined, each, has, others}
use Rattle.lists.proofs.Bools.{by_cases, and_both, or_right}
use Rattle.lists.proofs.Counting.{clash}
use Rattle.lists.proofs.Only.{only_length}
use Rattle.lists.proofs.Others.{has_only}
use Rattle.mesh.specs.Limits.{corner_numbers}
use Rattle.mesh.specs.Mesh.{Mesh, Ring, position, faces, position_count}
use Rattle.mesh.specs.Table.{over_limits}
use Rattle.mesh.proofs.Faces.{length_rings}
use Rattle.verdicts.specs.Edges.{Edge, same}
use Rattle.smoothed.specs.Smoothed.{sides, first_uses, edges_by_use, four, smoothed_faces, smoothed_count, Smoothable, used_in, all_used}
use Rattle.smoothed.specs.Promise.{most_faces, smoothed_mesh}
use Rattle.smoothed.proofs.All.{All, all_map, all_here, some_each, length_each}
use Rattle.smoothed.proofs.Spans.{every_span_at}
use Rattle.smoothed.proofs.Proper.{Proper, proper, all_proper}

-- ---- n different numbers are no fewer than n

others_fewer : (x : ℕ) (l : List ℕ) → has x l ≡ true → length (others x l) < length l
others_fewer x [] h = clash h refl
others_fewer x (y ∷ l) h =
    by_cases
    (eqb x y)
    (λ e. let a : length (others x l) ≤ length l = only_length (λ (z : ℕ). not (eqb x z)) l in rw e (omega arith))
    (λ e. let a : length (others x l) < length l = others_fewer x l (rw e at h) in rw e (omega arith))

all_there : (n : ℕ) (l : List ℕ) → ((x : ℕ) → x < n → has x l ≡ true) → n ≤ length l
all_there zero l f = omega arith
all_there (suc n) l f =
    let a : length (others n l) < length l = others_fewer n l (f n (omega arith)) in
    let b : n ≤ length (others n l) =
    all_there n (others n l)
    (λ x h.
    let l' : x < n = h in
    has_only (λ (z : ℕ). not (eqb n z)) x l
    ∙ and_both (not (eqb n x)) (has x l) (ap not (ne_eqb n x (λ e. omega arith))) (f x (omega arith))) in
    omega arith

-- ---- positions, edges and faces

module _ (n : ℕ) (fs : List Ring) (s : Smoothable n fs) where
  corners_three : All (λ f. length (map position f) ≡ 3) fs
  corners_three = all_map go (all_proper n fs s)
    where
      go : (f : Ring) → Proper n (edges_by_use fs) f → length (map position f) ≡ 3
      go _ (proper t) = refl

  pub positions_few : all_used n fs ≡ true → n ≤ 3 * length fs
  unfolding all_used
  positions_few u =
      let e : length (each (map position) fs) ≡ length fs * 3 = length_each (map position) 3 corners_three in
      let a : n ≤ length (each (map position) fs) =
      all_there n (each (map position) fs) (λ x h. some_each (map position) (eqb x) fs ∙ every_span_at (used_in fs) n x u h) in
      omega arith

pub uses_fewer : (l : List Edge) → length (first_uses l) ≤ length l
uses_fewer [] = omega arith
uses_fewer (k ∷ l) =
    let a : length (first_uses l) ≤ length l = uses_fewer l in
    let b : length (only (λ j. not (same k j)) (first_uses l)) ≤ length (first_uses l) = only_length (λ j. not (same k j)) (first_uses l) in
    omega arith

pub edges_few : (fs : List Ring) → length (edges_by_use fs) ≤ 3 * length fs
unfolding edges_by_use
edges_few fs =
    let e : length (each sides fs) ≡ length fs * 3 = length_each sides 3 (all_here (λ f. refl) fs) in
    let a : length (first_uses (each sides fs)) ≤ length (each sides fs) = uses_fewer (each sides fs) in
    omega arith

pub faces_four : (n : ℕ) (fs : List Ring) → length (smoothed_faces n fs) ≡ 4 * length fs
unfolding smoothed_faces
faces_four n fs =
    let e : length (each (four n (edges_by_use fs)) fs) ≡ length fs * 4 = length_each (four n (edges_by_use fs)) 4 (all_here (λ f. refl) fs) in
    omega arith

mesh_faces : (m : Mesh) → length (faces m) ≡ length m.sizes
unfolding faces
mesh_faces m = length_rings m.sizes m.corners

-- of at most 341 faces come at most 1,364, and at most 2,046 positions
pub smoothed_fits :
    (n : ℕ) (fs : List Ring) → Smoothable n fs → all_used n fs ≡ true → length fs ≤ most_faces
    → (length (smoothed_faces n fs) ≤ 1364) × (smoothed_count n fs ≤ 2046)
smoothed_fits n fs s u h =
    let a : n ≤ 3 * length fs = positions_few n fs s u in
    let b : length (edges_by_use fs) ≤ 3 * length fs = edges_few fs in
    let c : length (smoothed_faces n fs) ≡ 4 * length fs = faces_four n fs in
    (omega arith, omega arith)

-- of more than 341 faces comes a mesh that is over a limit, whatever its positions
pub over_limit : (m : Mesh) (ps : List Float) → most_faces < length m.sizes → over_limits (smoothed_mesh m ps) ≡ true
unfolding over_limits smoothed_mesh
over_limit m ps h =
    or_right
    (ltb 6144 (length ps)
    || ltb 4096 (length m.textures)
    || ltb 6144 (length m.normals)
    || ltb corner_numbers (length (each joined (smoothed_faces (position_count m) (faces m)))))
    (ltb 1365 (length (map length (smoothed_faces (position_count m) (faces m)))))
    (lt-ltb 1365 (length (map length (smoothed_faces (position_count m) (faces m))))
    (omega (arith, length-map (smoothed_faces (position_count m) (faces m)) length, faces_four (position_count m) (faces m), mesh_faces m)))
