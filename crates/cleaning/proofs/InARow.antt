-- Removal and compaction in a row: what removal hands on is the mesh without folded faces, the faces afterwards are its faces renumbered,
-- and so the origins that removal wrote hold of them. Assumes nothing.
use mathlib.Core.Path.{◌≡◌, sym, ap, ap₂, ◌∙◌, subst}
use mathlib.Core.Bool.{false}
use mathlib.Core.List.{List, [], ◌∷◌, map}
use Prim.Native.Nat.{ℕ, ◌*◌, ◌/◌, ◌≤◌, ◌<◌}
use native.Mathlib.Omega.{arith}
use lib.ListN.{length, get_or, take, length-map, get_or-map}
use lib.Seq.{get_or-take}
use lib.Dec.{ltb}
use borrow.Author.Tests.{ltb-false}
use Rattle.lists.specs.Lists.{sum}
use Rattle.lists.specs.Putting.{Front}
use Rattle.lists.proofs.Bools.{or_false_left, or_false_right}
use Rattle.lists.proofs.Fronts.{front}
use Rattle.mesh.specs.Limits.{width, least_ring}
use Rattle.mesh.specs.Mesh.{Mesh, Ring, rings, faces}
use Rattle.mesh.specs.Table.{mesh_number, when, short}
use Rattle.mesh.proofs.After.{after_done}
use Rattle.mesh.proofs.Numbers.{first_head, first_tail, when_not}
use Rattle.mesh.proofs.Accepted.{accepted}
use Rattle.mesh.proofs.Faces.{sizes_back}
use Rattle.grouping.specs.Push.{corner_count}
use Rattle.removal.specs.Folded.{Removed}
use Rattle.removal.specs.Origins.{origins_of}
use Rattle.removal.specs.Folded as removal
use Rattle.removal.proofs.Result.{removed_count, removed_length}
use Rattle.removal.proofs.Accepted.{faces_unfolded, flat_removed, removed_accepted}
use Rattle.removal.proofs.CameFrom.{as_many_origins, each_has_its_origin}
use Rattle.unused.specs.Compaction.{Compacted}
use Rattle.unused.specs.Compaction as compaction
use Rattle.unused.proofs.Laws.{corners_kept, faces_compacted}
use Rattle.cleaning.specs.Promises.{handed_on, faces_after, InARow, Came, OriginsHold}

-- a call that answers 0 had an accepted mesh and room
pub record Roomy (m : Mesh) (r : removal.Result) : Type 0 where
  pub ok : mesh_number m ≡ 0
  pub corners : length m.corners ≤ length r.corners
  pub sizes : length m.corners / width / least_ring ≤ length r.sizes
  pub origins : length m.corners / width / least_ring ≤ length r.origins

roomy : (m : Mesh) (r : removal.Result) → removal.removal_number m r ≡ 0 → Roomy m r
unfolding removal.removal_number removal.too_short short
roomy m r e =
    let third = length m.corners / width / least_ring in
    let a = ltb (length r.corners) (length m.corners) in
    let b = ltb (length r.sizes) third in
    let c = ltb (length r.origins) third in
    let rest = when (removal.too_short m r) 9 ∷ [] in
    let s : removal.too_short m r ≡ false =
    when_not (removal.too_short m r) 8 (first_head (when (removal.too_short m r) 9) [] (first_tail (mesh_number m) rest e)) in
    record {
      ok = first_head (mesh_number m) rest e;
      corners = ltb-false _ _ (or_false_left a _ s);
      sizes = ltb-false _ _ (or_false_left b _ (or_false_right a _ s));
      origins = ltb-false _ _ (or_false_left c _ (or_false_right b _ (or_false_right a _ s)));
    }

module _ {m : Mesh} {before left : removal.Result} {answer : Removed} (h : removal.Removal m before left answer) (z : answer.number ≡ 0) where
  room : Roomy m before
  room = roomy m before (sym h.number ∙ z)

  -- how many corners and faces are left, and that there was room for them
  corner_count_is : answer.corners ≡ corner_count (removal.removed (faces m))
  corner_count_is = h.corner_count_is ∙ after_done answer.number _ 0 z

  face_count : answer.faces ≡ length (removal.removed (faces m))
  face_count = h.face_count ∙ after_done answer.number _ 0 z

  adds : width * corner_count (faces m) ≡ length m.corners
  unfolding faces
  adds =
      let s = (accepted m room.ok).sound.adds in
      ap (λ (l : List ℕ). width * sum l) (sizes_back m.sizes m.corners (omega arith)) ∙ s

  few_corners : width * answer.corners ≤ length before.corners
  few_corners = omega (arith, corner_count_is, removed_count (faces m), adds, room.corners)

  few : answer.faces ≤ length m.corners / width / least_ring
  few = omega (arith, face_count, removed_length (faces m), removed_count (faces m), adds)

  -- what stands at the front of the three lists
  pub corners_front : Front left.corners (removal.unfolded_mesh m).corners (width * answer.corners)
  unfolding removal.unfolded_mesh
  corners_front =
      front before.corners (h.corners ∙ after_done answer.number _ _ z)
      (flat_removed m room.ok ∙ ap (λ (n : ℕ). width * n) (sym corner_count_is)) few_corners

  pub sizes_front : Front left.sizes (removal.unfolded_mesh m).sizes answer.faces
  unfolding removal.unfolded_mesh
  sizes_front =
      front before.sizes (h.sizes ∙ after_done answer.number _ _ z)
      (length-map (removal.removed (faces m)) length ∙ sym face_count) (omega (arith, few, room.sizes))

  pub origins_front : Front left.origins (origins_of (faces m)) answer.faces
  origins_front =
      front before.origins (h.origins ∙ after_done answer.number _ _ z)
      (as_many_origins (faces m) ∙ sym face_count) (omega (arith, few, room.origins))

  -- so what is handed on is the mesh without folded faces
  pub handed_on_lem : handed_on m left answer ≡ removal.unfolded_mesh m
  unfolding removal.unfolded_mesh
  handed_on_lem = rw (corners_front.is, sizes_front.is)

-- ---- and compaction after it

packed_room : (m : Mesh) (r : compaction.Result) → compaction.compaction_number m r ≡ 0 → length m.corners ≤ length r.corners
unfolding compaction.compaction_number compaction.too_short short
packed_room m r e =
    let rest = when (compaction.too_short m r) 9 ∷ [] in
    let s : compaction.too_short m r ≡ false =
    when_not (compaction.too_short m r) 8 (first_head (when (compaction.too_short m r) 9) [] (first_tail (mesh_number m) rest e)) in
    ltb-false _ _ (or_false_left (ltb (length r.corners) (length m.corners)) _ s)

module _ (m : Mesh) (before left : removal.Result) (answer : Removed) (given packed : compaction.Result) (counts : Compacted)
    (h : InARow m before left answer given packed counts) where
  abbrev unfolded : Mesh
  unfolded = removal.unfolded_mesh m

  ok : mesh_number unfolded ≡ 0
  ok = removed_accepted m (room h.removes h.removed_0).ok

  compacts : compaction.Compaction unfolded given packed counts
  compacts = subst (λ (x : Mesh). compaction.Compaction x given packed counts) (handed_on_lem h.removes h.removed_0) h.compacts

  long : length unfolded.corners ≡ width * answer.corners
  long = let f = corners_front h.removes h.removed_0 in sym (ap length f.is) ∙ sym f.long

  packed_corners : take (width * answer.corners) packed.corners ≡ (compaction.compacted unfolded).corners
  packed_corners =
      let r : length unfolded.corners ≤ length given.corners = packed_room unfolded given (sym compacts.number ∙ h.compacted_0) in
      (front given.corners (compacts.corners ∙ after_done counts.number _ _ h.compacted_0)
      (corners_kept unfolded ok ∙ long) (omega (arith, long))).is

  -- the faces afterwards are those that removal left, renumbered
  pub faces_after_lem : faces_after left answer packed ≡ map (map (compaction.renumbered unfolded)) (removal.removed (faces m))
  unfolding faces compaction.compacted
  faces_after_lem =
      ap₂ rings (sizes_front h.removes h.removed_0).is packed_corners
      ∙ faces_compacted unfolded ok
      ∙ ap (map (map (compaction.renumbered unfolded))) (faces_unfolded m)

  came : (k : ℕ) → k < answer.faces → Came m (handed_on m left answer) (get_or left.origins k 0) (get_or (faces_after left answer packed) k [])
  came k l =
      let fs = faces m in
      let o = each_has_its_origin fs k (rw (face_count h.removes h.removed_0) at l) in
      let e : get_or (origins_of fs) k 0 ≡ get_or left.origins k 0 =
      ap (λ (os : List ℕ). get_or os k 0) (sym (origins_front h.removes h.removed_0).is) ∙ get_or-take answer.faces left.origins k 0 l in
      record {
        is_face = rw e at o.is_face;
        piece = get_or (removal.removed fs) k [];
        is_piece_is = rw e at o.is_piece_is;
        is_renumbered =
            ap (λ (gs : List Ring). get_or gs k []) faces_after_lem
            ∙ get_or-map (map (compaction.renumbered unfolded)) (removal.removed fs) k []
            ∙ ap (λ (x : Mesh). map (compaction.renumbered x) (get_or (removal.removed fs) k [])) (sym (handed_on_lem h.removes h.removed_0));
      }

pub origins_hold : OriginsHold
origins_hold m before left answer given packed counts h k l = came m before left answer given packed counts h k l
