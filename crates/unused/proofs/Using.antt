-- What a caller of compaction has in hand where it answered 0: the mesh was accepted, there was room, and the first numbers of the
-- lent lists are the compacted mesh. Assumes nothing.
use mathlib.Core.Path.{◌≡◌, sym, ap, ◌∙◌}
use mathlib.Core.Bool.{false, ◌||◌}
use mathlib.Core.List.{[], ◌∷◌}
use Prim.Native.Nat.{◌*◌, ◌≤◌}
use native.Mathlib.Omega.{arith}
use lib.ListN.{length, take}
use lib.Seq.{sets}
use lib.Dec.{ltb}
use borrow.Author.Tests.{ltb-false}
use Rattle.lists.proofs.Bools.{or_false_left, or_false_right}
use Rattle.lists.proofs.Copies.{take_written}
use Rattle.mesh.specs.Limits.{point_width, texel_width}
use Rattle.mesh.specs.Mesh.{Mesh, position_count, texture_count, normal_count}
use Rattle.mesh.specs.Table.{mesh_number, when, short}
use Rattle.mesh.proofs.Numbers.{first_head, first_tail, when_not}
use Rattle.mesh.proofs.Accepted.{accepted}
use Rattle.unused.specs.Compaction.{Compacted, compacted, Result, too_short, compaction_number, Compaction}
use Rattle.mesh.proofs.After.{after_done}
use Rattle.unused.proofs.Laws.{positions_long, textures_long, normals_long, positions_counted, textures_counted, normals_counted}
use Rattle.unused.proofs.Laws.{positions_fewer, textures_fewer, normals_fewer, corners_kept}

-- each lent list is as long as the list that it is made from
pub record Roomy (m : Mesh) (before : Result) : Type 0 where
  pub corners : length m.corners ≤ length before.corners
  pub positions : length m.positions ≤ length before.positions
  pub textures : length m.textures ≤ length before.textures
  pub normals : length m.normals ≤ length before.normals

roomy : (m : Mesh) (before : Result) → too_short m before ≡ false → Roomy m before
unfolding too_short short
roomy m before h =
    let a = ltb (length before.corners) (length m.corners) in
    let b = ltb (length before.positions) (length m.positions) in
    let c = ltb (length before.textures) (length m.textures) in
    let d = ltb (length before.normals) (length m.normals) in
    let h1 : (b || (c || (d || false))) ≡ false = or_false_right a (b || (c || (d || false))) h in
    let h2 : (c || (d || false)) ≡ false = or_false_right b (c || (d || false)) h1 in
    let h3 : (d || false) ≡ false = or_false_right c (d || false) h2 in
    record {
      corners = ltb-false (length before.corners) (length m.corners) (or_false_left a (b || (c || (d || false))) h);
      positions = ltb-false (length before.positions) (length m.positions) (or_false_left b (c || (d || false)) h1);
      textures = ltb-false (length before.textures) (length m.textures) (or_false_left c (d || false) h2);
      normals = ltb-false (length before.normals) (length m.normals) (or_false_left d false h3);
    }

-- what the number 0 says
pub zero_accepted : (m : Mesh) (before : Result) → compaction_number m before ≡ 0 → mesh_number m ≡ 0
unfolding compaction_number
zero_accepted m before h = first_head (mesh_number m) (when (too_short m before) 9 ∷ []) h

pub zero_roomy : (m : Mesh) (before : Result) → compaction_number m before ≡ 0 → Roomy m before
unfolding compaction_number
zero_roomy m before h =
    roomy m before
    (when_not (too_short m before) 8
    (first_head (when (too_short m before) 9) [] (first_tail (mesh_number m) (when (too_short m before) 9 ∷ []) h)))

-- the first numbers of the lent lists, as many as the counts say, are the compacted mesh
pub record Given (m : Mesh) (afterwards : Result) (answer : Compacted) : Type 0 where
  pub corners : take (length m.corners) afterwards.corners ≡ (compacted m).corners
  pub positions : take (point_width * answer.positions) afterwards.positions ≡ (compacted m).positions
  pub textures : take (texel_width * answer.textures) afterwards.textures ≡ (compacted m).textures
  pub normals : take (point_width * answer.normals) afterwards.normals ≡ (compacted m).normals

pub given :
    (m : Mesh) (before afterwards : Result) (answer : Compacted) → Compaction m before afterwards answer → answer.number ≡ 0
    → Given m afterwards answer
given m before afterwards answer c e =
    let n : compaction_number m before ≡ 0 = sym c.number ∙ e in
    let z : mesh_number m ≡ 0 = zero_accepted m before n in
    let r : Roomy m before = zero_roomy m before n in
    let w = (accepted m z).whole in
    let p : answer.positions ≡ position_count (compacted m) =
    c.position_count_is ∙ after_done answer.number (position_count (compacted m)) 0 e in
    let t : answer.textures ≡ texture_count (compacted m) =
    c.texture_count_is ∙ after_done answer.number (texture_count (compacted m)) 0 e in
    let q : answer.normals ≡ normal_count (compacted m) =
    c.normal_count_is ∙ after_done answer.number (normal_count (compacted m)) 0 e in
    record {
      corners =
          ap (take (length m.corners))
          (c.corners ∙ after_done answer.number (sets before.corners 0 (compacted m).corners) before.corners e)
          ∙ take_written before.corners (compacted m).corners (length m.corners) (corners_kept m z) r.corners;
      positions =
          ap (take (point_width * answer.positions))
          (c.positions ∙ after_done answer.number (sets before.positions 0 (compacted m).positions) before.positions e)
          ∙ take_written before.positions (compacted m).positions (point_width * answer.positions)
          (omega (arith, positions_long m z, positions_counted m z)) (omega (arith, positions_fewer m z, r.positions, w.positions));
      textures =
          ap (take (texel_width * answer.textures))
          (c.textures ∙ after_done answer.number (sets before.textures 0 (compacted m).textures) before.textures e)
          ∙ take_written before.textures (compacted m).textures (texel_width * answer.textures)
          (omega (arith, textures_long m z, textures_counted m z)) (omega (arith, textures_fewer m z, r.textures, w.textures));
      normals =
          ap (take (point_width * answer.normals))
          (c.normals ∙ after_done answer.number (sets before.normals 0 (compacted m).normals) before.normals e)
          ∙ take_written before.normals (compacted m).normals (point_width * answer.normals)
          (omega (arith, normals_long m z, normals_counted m z)) (omega (arith, normals_fewer m z, r.normals, w.normals));
    }
