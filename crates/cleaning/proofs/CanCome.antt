-- Removal and compaction in a row can be had: the lists and answers that the two contracts determine, both with the number 0. Assumes nothing.
use mathlib.Core.Path.{◌≡◌, refl, ap, ◌∙◌}
use mathlib.Core.Bool.{false}
use Prim.Native.Nat.{ℕ}
use lib.ListN.{length}
use lib.Seq.{sets}
use Rattle.mesh.specs.Mesh.{Mesh, faces, position_count, texture_count, normal_count}
use Rattle.mesh.specs.Table.{mesh_number, after}
use Rattle.grouping.specs.Push.{corner_count}
use Rattle.removal.specs.Folded.{Removed}
use Rattle.removal.specs.Origins.{origins_of}
use Rattle.removal.specs.Folded as removal
use Rattle.removal.proofs.Accepted.{removed_accepted}
use Rattle.unused.specs.Compaction.{Compacted}
use Rattle.unused.specs.Compaction as compaction
use Rattle.cleaning.specs.Promises.{handed_on, CanComeInARow}
use Rattle.cleaning.proofs.InARow.{handed_on_lem}

-- an accepted mesh and room: each call answers 0
removal_0 : (m : Mesh) (r : removal.Result) → mesh_number m ≡ 0 → removal.too_short m r ≡ false → removal.removal_number m r ≡ 0
unfolding removal.removal_number
removal_0 m r ok long = rw (ok, long)

compaction_0 : (m : Mesh) (r : compaction.Result) → mesh_number m ≡ 0 → compaction.too_short m r ≡ false → compaction.compaction_number m r ≡ 0
unfolding compaction.compaction_number
compaction_0 m r ok long = rw (ok, long)

pub can_come_in_a_row : CanComeInARow
can_come_in_a_row m before room ok long roomy =
    let n : ℕ = removal.removal_number m before in
    let unfolded : Mesh = removal.unfolded_mesh m in
    let left : removal.Result = removal.result_of
    (after n (sets before.corners 0 unfolded.corners) before.corners)
    (after n (sets before.sizes 0 unfolded.sizes) before.sizes)
    (after n (sets before.origins 0 (origins_of (faces m))) before.origins) in
    let answer : Removed = record {
      number = n;
      corners = after n (corner_count (removal.removed (faces m))) 0;
      faces = after n (length (removal.removed (faces m))) 0;
    } in
    let removes : removal.Removal m before left answer = record {
      number = refl;
      corner_count_is = refl;
      face_count = refl;
      corners = refl;
      sizes = refl;
      origins = refl;
    } in
    let removed_0 : n ≡ 0 = removal_0 m before ok long in
    let given : Mesh = handed_on m left answer in
    let k : ℕ = compaction.compaction_number given room in
    let compacted : Mesh = compaction.compacted given in
    let packed : compaction.Result = compaction.result_of
    (after k (sets room.corners 0 compacted.corners) room.corners)
    (after k (sets room.positions 0 compacted.positions) room.positions)
    (after k (sets room.textures 0 compacted.textures) room.textures)
    (after k (sets room.normals 0 compacted.normals) room.normals) in
    let counts : Compacted = record {
      number = k;
      positions = after k (position_count compacted) 0;
      textures = after k (texture_count compacted) 0;
      normals = after k (normal_count compacted) 0;
    } in
    let compacts : compaction.Compaction given room packed counts = record {
      number = refl;
      position_count_is = refl;
      texture_count_is = refl;
      normal_count_is = refl;
      corners = refl;
      positions = refl;
      textures = refl;
      normals = refl;
    } in
    let compacted_0 : k ≡ 0 =
    ap (λ (x : Mesh). compaction.compaction_number x room) (handed_on_lem removes removed_0)
    ∙ compaction_0 unfolded room (removed_accepted m ok) roomy in
    (left, answer, packed, counts, record { removes = removes; removed_0 = removed_0; compacts = compacts; compacted_0 = compacted_0 })
