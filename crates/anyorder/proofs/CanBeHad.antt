-- What is asked of the calls can be had: what the two contracts determine, on lists with the stated room. Assumes nothing.
use mathlib.Core.Path.{◌≡◌, refl}
use mathlib.Core.Bool.{false}
use mathlib.Core.List.{List, [], ◌∷◌}
use Prim.Native.Nat.{ℕ, ◌/◌}
use native.Mathlib.Omega.{arith}
use lib.ListN.{length}
use lib.Seq.{sets}
use borrow.Author.Tests.{le-ltb}
use Rattle.mesh.specs.Limits.{width, least_ring}
use Rattle.mesh.specs.Mesh.{Mesh, faces, position_count, texture_count, normal_count}
use Rattle.mesh.specs.Table.{short, after}
use Rattle.grouping.specs.Push.{corner_count}
use Rattle.removal.specs.Origins.{origins_of}
use Rattle.removal.specs.Folded as removal
use Rattle.unused.specs.Compaction as compaction
use Rattle.anyorder.specs.Orders.{Step, Remove, Compact}
use Rattle.anyorder.specs.Calls.{RemovalCall, left_by_removal, CompactionCall, left_by_compaction, Calls, done, removing, compacting, CallsCanBeHad}

a_removal : (m : Mesh) (lent : removal.Result) → removal.too_short m lent ≡ false → RemovalCall m
a_removal m lent h =
    let n : ℕ = removal.removal_number m lent in
    let new : Mesh = removal.unfolded_mesh m in
    record {
      before = lent;
      afterwards = removal.result_of
          (after n (sets lent.corners 0 new.corners) lent.corners)
          (after n (sets lent.sizes 0 new.sizes) lent.sizes)
          (after n (sets lent.origins 0 (origins_of (faces m))) lent.origins);
      answer = record {
        number = n;
        corners = after n (corner_count (removal.removed (faces m))) 0;
        faces = after n (length (removal.removed (faces m))) 0;
      };
      contract = record { number = refl; corner_count_is = refl; face_count = refl; corners = refl; sizes = refl; origins = refl };
      room = h;
    }

a_compaction : (m : Mesh) (lent : compaction.Result) → compaction.too_short m lent ≡ false → CompactionCall m
a_compaction m lent h =
    let n : ℕ = compaction.compaction_number m lent in
    let new : Mesh = compaction.compacted m in
    record {
      before = lent;
      afterwards = compaction.result_of
          (after n (sets lent.corners 0 new.corners) lent.corners)
          (after n (sets lent.positions 0 new.positions) lent.positions)
          (after n (sets lent.textures 0 new.textures) lent.textures)
          (after n (sets lent.normals 0 new.normals) lent.normals);
      answer = record {
        number = n;
        positions = after n (position_count new) 0;
        textures = after n (texture_count new) 0;
        normals = after n (normal_count new) 0;
      };
      contract = record {
        number = refl;
        position_count_is = refl;
        texture_count_is = refl;
        normal_count_is = refl;
        corners = refl;
        positions = refl;
        textures = refl;
        normals = refl;
      };
      room = h;
    }

-- lists that are long enough: the mesh's own
abbrev room_for_removal : (m : Mesh) → removal.Result
room_for_removal m = removal.result_of m.corners m.corners m.corners

removal_room : (m : Mesh) → removal.too_short m (room_for_removal m) ≡ false
unfolding removal.too_short short
removal_room m =
    let n : ℕ = length m.corners in
    rw (le-ltb n n (omega arith), le-ltb n (n / width / least_ring) (omega arith))

abbrev room_for_compaction : (m : Mesh) → compaction.Result
room_for_compaction m = compaction.result_of m.corners m.positions m.textures m.normals

compaction_room : (m : Mesh) → compaction.too_short m (room_for_compaction m) ≡ false
unfolding compaction.too_short short
compaction_room m =
    rw (
      le-ltb (length m.corners) (length m.corners) (omega arith),
      le-ltb (length m.positions) (length m.positions) (omega arith),
      le-ltb (length m.textures) (length m.textures) (omega arith),
      le-ltb (length m.normals) (length m.normals) (omega arith),
    )

some_calls : (m : Mesh) (ss : List Step) → (n : Mesh) × Calls m ss n
some_calls m [] = (m, done)
some_calls m (Remove ∷ ss) =
    let r = a_removal m (room_for_removal m) (removal_room m) in
    let c = some_calls (left_by_removal r) ss in
    (c.0, removing r c.1)
some_calls m (Compact ∷ ss) =
    let r = a_compaction m (room_for_compaction m) (compaction_room m) in
    let c = some_calls (left_by_compaction r) ss in
    (c.0, compacting r c.1)

pub calls_can_be_had : CallsCanBeHad
unfolding a_removal a_compaction
calls_can_be_had = record {
  removal_had = λ m lent h. (a_removal m lent h, refl);
  compaction_had = λ m lent h. (a_compaction m lent h, refl);
  in_every_order = some_calls;
}
