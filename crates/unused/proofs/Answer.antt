-- The call: what it answers on a refusal and on 0. Assumes nothing.
use mathlib.Core.Path.{◌≡◌, refl, sym, ◌∙◌}
use mathlib.Core.Bool.{true}
use mathlib.Core.List.{[], ◌∷◌}
use Prim.Native.Nat.{ℕ, ◌*◌, ◌≤◌, ◌<◌}
use native.Mathlib.Omega.{arith}
use Rattle.std.specs.Prelude.{Err}
use lib.ListN.{length}
use lib.Seq.{sets}
use borrow.Author.Tests.{lt-ltb, le-ltb}
use Rattle.mesh.specs.Limits.{point_width, texel_width}
use Rattle.mesh.specs.Mesh.{Mesh, position_count, texture_count, normal_count}
use Rattle.mesh.specs.Table.{mesh_number, when, short}
use Rattle.mesh.proofs.Accepted.{accepted}
use Rattle.mesh.proofs.After.{after_refused, after_done}
use Rattle.mesh.proofs.Numbers.{first_is, first_on, row_given}
use Rattle.mesh.specs.Refusals.{number_of}
use Rattle.mesh.specs.declared.refusal.Refusal.{Refusal}
use Rattle.unused.specs.Compaction.{Compacted, compacted_of, uses_of, entries, used_positions, used_textures, used_normals, renumbered, compacted, Result, too_short, compaction_number, Compaction}
use Rattle.unused.specs.Working.{column, Ready, Done, Refused}
use Rattle.unused.proofs.Accepting.{pointed_positions, pointed_textures, pointed_normals, length_kept}

-- a refusal answers its number, and counts of 0
pub refused_of : (r : Refusal) → Refused (compacted_of (Err r)) (number_of r)
refused_of r = record { is = refl; positions = refl; textures = refl; normals = refl }

module _ (m : Mesh) (before : Result) (answer : Compacted) where
  refused_is : (n : ℕ) → (n ≡ 0 → ⊥) → n ≡ compaction_number m before → Refused answer n → Compaction m before before answer
  refused_is n h e r =
      let z : answer.number ≡ 0 → ⊥ = λ q. h (sym r.is ∙ q) in
      record {
        number = r.is ∙ e;
        position_count_is = r.positions ∙ sym (after_refused answer.number (position_count (compacted m)) 0 z);
        texture_count_is = r.textures ∙ sym (after_refused answer.number (texture_count (compacted m)) 0 z);
        normal_count_is = r.normals ∙ sym (after_refused answer.number (normal_count (compacted m)) 0 z);
        corners = sym (after_refused answer.number _ before.corners z);
        positions = sym (after_refused answer.number _ before.positions z);
        textures = sym (after_refused answer.number _ before.textures z);
        normals = sym (after_refused answer.number _ before.normals z);
      }

  -- 1 to 5
  pub refused_mesh : (n : ℕ) → n ≡ mesh_number m → (n ≡ 0 → ⊥) → Refused answer n → Compaction m before before answer
  unfolding compaction_number
  refused_mesh n e h r =
      refused_is n h (e ∙ sym (first_is (mesh_number m) (when (too_short m before) 9 ∷ []) (λ q. h (e ∙ q)))) r

  -- 9
  refused_room : mesh_number m ≡ 0 → too_short m before ≡ true → Refused answer 9 → Compaction m before before answer
  unfolding compaction_number
  refused_room z s r =
      refused_is 9 (λ q. omega arith)
      (sym (first_on (mesh_number m) (when (too_short m before) 9 ∷ []) z ∙ row_given (too_short m before) 8 [] s)) r

  module _ (z : mesh_number m ≡ 0) where
    pub refused_corners : length before.corners < length m.corners → Refused answer 9 → Compaction m before before answer
    unfolding too_short short
    refused_corners a r = refused_room z (rw (lt-ltb _ _ a)) r

    module _ (a : length m.corners ≤ length before.corners) where
      pub refused_positions :
          length before.positions < length m.positions → Refused answer 9 → Compaction m before before answer
      unfolding too_short short
      refused_positions b r = refused_room z (rw (le-ltb _ _ a, lt-ltb _ _ b)) r

      module _ (b : length m.positions ≤ length before.positions) where
        pub refused_textures :
            length before.textures < length m.textures → Refused answer 9 → Compaction m before before answer
        unfolding too_short short
        refused_textures c r = refused_room z (rw (le-ltb _ _ a, le-ltb _ _ b, lt-ltb _ _ c)) r

        module _ (c : length m.textures ≤ length before.textures) where
          pub refused_normals :
              length before.normals < length m.normals → Refused answer 9 → Compaction m before before answer
          unfolding too_short short
          refused_normals d r = refused_room z (rw (le-ltb _ _ a, le-ltb _ _ b, le-ltb _ _ c, lt-ltb _ _ d)) r

-- there is room, and the mesh is accepted
pub ready :
    (m : Mesh) (before : Result) → mesh_number m ≡ 0 → length m.corners ≤ length before.corners
    → length m.positions ≤ length before.positions
    → length m.textures ≤ length before.textures → length m.normals ≤ length before.normals
    → Ready m.positions m.textures m.normals m.corners before
ready m before z a b c d = record {
  positions = pointed_positions m z;
  textures = pointed_textures m z;
  normals = pointed_normals m z;
  whole = (accepted m z).whole.corners;
  corner_room = a;
  position_room = b;
  texture_room = c;
  normal_room = d;
}

-- 0
pub done :
    (m : Mesh) (before afterwards : Result) (answer : Compacted) → mesh_number m ≡ 0
    → Ready m.positions m.textures m.normals m.corners before
    → Done m.positions m.textures m.normals m.corners before afterwards answer → Compaction m before afterwards answer
unfolding compaction_number too_short short compacted renumbered used_positions used_textures used_normals
done m before afterwards answer z r d =
    let p : length (entries point_width m.positions (uses_of (column 0 m.corners))) ≡ length (uses_of (column 0 m.corners)) * point_width =
    length_kept m.positions point_width m.corners 0 r.positions in
    let t : length (entries texel_width m.textures (uses_of (column 1 m.corners))) ≡ length (uses_of (column 1 m.corners)) * texel_width =
    length_kept m.textures texel_width m.corners 1 r.textures in
    let n : length (entries point_width m.normals (uses_of (column 2 m.corners))) ≡ length (uses_of (column 2 m.corners)) * point_width =
    length_kept m.normals point_width m.corners 2 r.normals in
    let c0 = le-ltb (length before.corners) (length m.corners) r.corner_room in
    let p0 = le-ltb (length before.positions) (length m.positions) r.position_room in
    let t0 = le-ltb (length before.textures) (length m.textures) r.texture_room in
    let n0 = le-ltb (length before.normals) (length m.normals) r.normal_room in
    record {
      number = d.number ∙ sym (rw (z, c0, p0, t0, n0));
      position_count_is =
          d.position_count_is ∙ sym (after_done answer.number (position_count (compacted m)) 0 d.number ∙ omega arith);
      texture_count_is = d.texture_count_is ∙ sym (after_done answer.number (texture_count (compacted m)) 0 d.number ∙ omega arith);
      normal_count_is = d.normal_count_is ∙ sym (after_done answer.number (normal_count (compacted m)) 0 d.number ∙ omega arith);
      corners =
          d.corners ∙ sym (after_done answer.number (sets before.corners 0 (compacted m).corners) before.corners
          d.number);
      positions =
          d.positions ∙ sym (after_done answer.number (sets before.positions 0 (compacted m).positions) before.positions
          d.number);
      textures =
          d.textures ∙ sym (after_done answer.number (sets before.textures 0 (compacted m).textures) before.textures
          d.number);
      normals =
          d.normals ∙ sym (after_done answer.number (sets before.normals 0 (compacted m).normals) before.normals
          d.number);
    }
