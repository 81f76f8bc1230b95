-- The result of the removal, with the same attribute lists, is an accepted mesh, its faces are the removed faces again, and where no
-- face is folded it is the mesh itself. Assumes nothing.
use mathlib.Core.Path.{◌≡◌, refl, sym, ap, ap₂, ◌∙◌}
use mathlib.Core.Bool.{Bool, true, false, not, ◌&&◌, ◌||◌}
use mathlib.Core.List.{List, [], ◌∷◌, map}
use Prim.Native.Nat.{ℕ, ◌*◌}
use native.Mathlib.Nat.{le_of_eq}
use native.Mathlib.Omega.{arith}
use lib.ListN.{length, get_or}
use lib.Dec.{leb}
use borrow.Author.Tests.{le-leb}
use Rattle.lists.specs.Lists.{every, some, joined, each, sum}
use Rattle.lists.proofs.Bools.{and_both, and_left, and_right, by_cases, true_false}
use Rattle.lists.proofs.Mapping.{every_map, every_all}
use Rattle.lists.proofs.Parts.{every_joined}
use Rattle.mesh.specs.Limits.{width, ring_limit}
use Rattle.mesh.specs.Mesh.{Mesh, mesh_of, Corner, Ring, corners_in, rings, faces}
use Rattle.mesh.specs.Table.{mesh_number, astray, astray_at}
use Rattle.mesh.proofs.Corners.{is_corner}
use Rattle.mesh.proofs.Faces.{is_ring, rings_are, rings_back, sizes_back, corners_back}
use Rattle.mesh.proofs.Numbers.{clear}
use Rattle.mesh.proofs.Accepted.{Accepted, accepted}
use Rattle.grouping.specs.Push.{corner_count}
use Rattle.grouping.proofs.Placing.{length_flat}
use Rattle.grouping.proofs.Accepting.{corners_in-flat, sized, Orderly, accepted_faces}
use Rattle.folding.specs.Folding.{folded, pieces}
use Rattle.folding.proofs.Pieces.{is_face, pieces_sane}
use Rattle.removal.specs.Folded.{removed, unfolded_mesh}
use Rattle.removal.specs.Promises.{MeshAgain, NothingChanges}
use Rattle.removal.specs.Working.{Fit}
use Rattle.removal.proofs.Result.{every_pieces, corners_pieces, sizes_pieces, count_pieces, removed_corners}
use Rattle.removal.proofs.Unfolded.{removed_same}

-- ---- the faces of the result

removed_rings : (m : Mesh) → every is_ring (removed (faces m)) ≡ true
unfolding faces
removed_rings m = removed_corners is_corner (rings m.sizes m.corners) (rings_are m.sizes m.corners)

pub faces_unfolded : (m : Mesh) → faces (unfolded_mesh m) ≡ removed (faces m)
unfolding unfolded_mesh faces
faces_unfolded m = rings_back (removed (rings m.sizes m.corners)) (removed_rings m)

-- ---- the result is accepted

-- what no corner passes, each does not pass; and back
none_every : (p : Corner → Bool) (l : Ring) → some p l ≡ false → every (λ (c : Corner). not (p c)) l ≡ true
none_every p [] e = refl
none_every p (c ∷ l) e =
    let z : (p c || some p l) ≡ false = e in
    by_cases (p c) (λ t. true_false (rw t at z)) (λ t. rw t (none_every p l (rw t at z)))

every_none : (p : Corner → Bool) (l : Ring) → every (λ (c : Corner). not (p c)) l ≡ true → some p l ≡ false
every_none p [] e = refl
every_none p (c ∷ l) e =
    let z : (not (p c) && every (λ (x : Corner). not (p x)) l) ≡ true = e in
    by_cases (p c) (λ t. true_false (sym (rw t at z))) (λ t. rw t (every_none p l (rw t at z)))

abbrev few : ℕ → Bool
few n = leb n ring_limit

-- three corners or more, and no more than 300
both_sized : (fs : List Ring) → every is_face fs ≡ true → every (λ (r : Ring). few (length r)) fs ≡ true → every sized fs ≡ true
both_sized [] e f = refl
both_sized (r ∷ fs) e f =
    and_both (sized r) (every sized fs)
    (and_both (is_face r) (few (length r)) (and_left (is_face r) (every is_face fs) e) (and_left (few (length r)) (every (λ (x : Ring). few (length x)) fs) f))
    (both_sized fs (and_right (is_face r) (every is_face fs) e) (and_right (few (length r)) (every (λ (x : Ring). few (length x)) fs) f))

module _ (m : Mesh) (ok : mesh_number m ≡ 0) where
  a : Accepted m
  a = accepted m ok

  sizes_are : map length (faces m) ≡ m.sizes
  unfolding faces
  sizes_are = sizes_back m.sizes m.corners (le_of_eq a.sound.adds)

  corners_are : each joined (faces m) ≡ m.corners
  unfolding faces
  corners_are = corners_back m.sizes m.corners a.sound.adds

  rings_faces : every is_ring (faces m) ≡ true
  unfolding faces
  rings_faces = rings_are m.sizes m.corners

  few_each : every (λ (r : Ring). few (length r)) (faces m) ≡ true
  few_each =
      sym (every_map length few (faces m))
      ∙ ap (every few) sizes_are
      ∙ every_all few 0 m.sizes (λ k h. le-leb (get_or m.sizes k 0) ring_limit (a.most k h))

  pub flat_removed : length (each joined (removed (faces m))) ≡ width * corner_count (removed (faces m))
  flat_removed = length_flat (removed (faces m)) (removed_rings m)

  -- the pieces are in order
  orderly : Orderly m.positions m.textures m.normals (each pieces (faces m))
  orderly = record {
    few_positions = a.limits.positions;
    few_textures = a.limits.textures;
    few_normals = a.limits.normals;
    whole_positions = a.whole.positions;
    whole_textures = a.whole.textures;
    whole_normals = a.whole.normals;
    few_corners = omega (arith, count_pieces (faces m), ap sum sizes_are, a.sound.adds, a.limits.corners);
    are_rings = corners_pieces is_corner (faces m) rings_faces;
    are_sized = both_sized (each pieces (faces m)) (every_pieces is_face (faces m) (λ r. (pieces_sane r).faces)) (sizes_pieces ring_limit (faces m) few_each);
  }

  -- no corner of them strays
  abbrev keeps : Corner → Bool
  keeps c = not (astray_at m c)

  corners_keep : every keeps (corners_in m.corners) ≡ true
  unfolding astray
  corners_keep = none_every (astray_at m) (corners_in m.corners) (clear m ok).found

  found_all : some (astray_at m) (joined (each pieces (faces m))) ≡ false
  found_all =
      every_none (astray_at m) (joined (each pieces (faces m)))
      (every_joined keeps (each pieces (faces m))
      ∙ corners_pieces keeps (faces m)
      (sym (every_joined keeps (faces m))
      ∙ ap (every keeps) (sym (corners_in-flat (faces m) rings_faces) ∙ ap corners_in corners_are)
      ∙ corners_keep))

  still_accepted : mesh_number (unfolded_mesh m) ≡ 0
  unfolding unfolded_mesh removed
  still_accepted = accepted_faces m.positions m.textures m.normals (each pieces (faces m)) orderly found_all

  -- where no face is folded
  pub fit : Fit m.corners m.sizes
  fit = record { sound = a.sound; least = a.least; most = a.most }

  all_stay : some folded (faces m) ≡ false → removed (faces m) ≡ faces m
  unfolding faces
  all_stay h = removed_same m.corners m.sizes fit a.grouped h

  same_mesh : some folded (faces m) ≡ false → unfolded_mesh m ≡ m
  unfolding unfolded_mesh
  same_mesh h =
      ap₂ (λ (c s : List ℕ). mesh_of m.positions m.textures m.normals c s)
      (ap (each joined) (all_stay h) ∙ corners_are)
      (ap (map length) (all_stay h) ∙ sizes_are)

pub removed_accepted : MeshAgain
removed_accepted m z = still_accepted m z

pub mesh_stays : NothingChanges
mesh_stays m z h = same_mesh m z h

-- so its faces stay
pub faces_stay : (m : Mesh) → mesh_number m ≡ 0 → some folded (faces m) ≡ false → faces (unfolded_mesh m) ≡ faces m
faces_stay m z h = ap faces (mesh_stays m z h)
