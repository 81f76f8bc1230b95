-- A mesh that can be written: there is room for each part behind the others; and whether its lists are finite, one after the other. Assumes
-- nothing.
use mathlib.Core.Path.{◌≡◌, sym, ◌∙◌}
use mathlib.Core.List.{List, ◌++◌}
use Prim.Native.Nat.{ℕ, ◌+◌, ◌≤◌}
use native.Mathlib.Omega.{arith}
use lib.ListN.{length}
use Rattle.mesh.specs.Mesh.{Mesh}
use Rattle.mesh.proofs.Accepted.{Accepted, accepted}
use Rattle.floating.proofs.Finite.{Finite, finite_lists}
use Rattle.written.specs.Pieces.{file_of}
use Rattle.written.specs.Answer.{Ready}
use Rattle.written.proofs.Parting.{P, T, N, F, E, file_parts, parts_length, file_length_lem}
use Rattle.saving.specs.Working.{Stored, Entries, Faces}
use Rattle.saving.proofs.Storing.{stored_both, stored_as, still_long}

-- ---- the parts one behind the other

module _ (m : Mesh) (o : List ℕ) (r : Ready m o) where
  is_accepted : Accepted m
  is_accepted = accepted m r.accepted

  is_finite : Finite m.positions m.textures m.normals
  is_finite = finite_lists m.positions m.textures m.normals r.are_finite

  -- there is room for all five
  roomy : length (P m) + (length (T m) + (length (N m) + (length (F m) + 4))) ≤ length o
  roomy = omega (arith, r.room, file_length_lem m is_accepted, parts_length m is_accepted)

  pub ready_positions : Entries 3 1 m.positions o 0
  ready_positions = record {
    are_finite = is_finite.positions;
    some = omega arith;
    small = omega arith;
    fits = omega (arith, roomy);
  }

  module _ (o1 : List ℕ) (a : ℕ) (s1 : Stored (P m) o o1 0 a) where
    behind_1 : (a ≡ length (P m)) × (length o1 ≡ length o)
    behind_1 = (omega (arith, s1.place), still_long (P m) o o1 0 a s1)

    pub ready_textures : Entries 2 2 m.textures o1 a
    ready_textures = record {
      are_finite = is_finite.textures;
      some = omega arith;
      small = omega arith;
      fits = omega (arith, roomy, behind_1.0, behind_1.1);
    }

    module _ (o2 : List ℕ) (b : ℕ) (s2 : Stored (T m) o1 o2 a b) where
      behind_2 : (b ≡ length (P m) + length (T m)) × (length o2 ≡ length o)
      behind_2 = (omega (arith, s2.place, behind_1.0), still_long (T m) o1 o2 a b s2 ∙ behind_1.1)

      pub ready_normals : Entries 3 3 m.normals o2 b
      ready_normals = record {
        are_finite = is_finite.normals;
        some = omega arith;
        small = omega arith;
        fits = omega (arith, roomy, behind_2.0, behind_2.1);
      }

      module _ (o3 : List ℕ) (c : ℕ) (s3 : Stored (N m) o2 o3 b c) where
        behind_3 : (c ≡ length (P m) + length (T m) + length (N m)) × (length o3 ≡ length o)
        behind_3 = (omega (arith, s3.place, behind_2.0), still_long (N m) o2 o3 b c s3 ∙ behind_2.1)

        pub ready_faces : Faces m.corners m.sizes o3 c
        ready_faces = record {
          sound = is_accepted.sound;
          small = is_accepted.most;
          fits = omega (arith, roomy, behind_3.0, behind_3.1);
        }

        module _ (o4 : List ℕ) (d : ℕ) (s4 : Stored (F m) o3 o4 c d) where
          pub ready_end : d + 4 ≤ length o4
          ready_end = omega (arith, roomy, s4.place, behind_3.0, still_long (F m) o3 o4 c d s4, behind_3.1)

          pub all_stored : (o5 : List ℕ) (e : ℕ) → Stored (E m) o4 o5 d e → Stored (file_of m) o o5 0 e
          all_stored o5 e s5 =
              stored_as (P m ++ (T m ++ (N m ++ (F m ++ E m)))) (file_of m) o o5 0 e (sym (file_parts m))
              (stored_both (P m) (T m ++ (N m ++ (F m ++ E m))) o o1 o5 0 a e s1
              (stored_both (T m) (N m ++ (F m ++ E m)) o1 o2 o5 a b e s2
              (stored_both (N m) (F m ++ E m) o2 o3 o5 b c e s3
              (stored_both (F m) (E m) o3 o4 o5 c d e s4 s5))))
