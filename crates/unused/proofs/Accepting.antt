-- What an accepted mesh hands to compaction: each column points into its list. Assumes nothing.
use mathlib.Core.Path.{◌≡◌, refl}
use mathlib.Core.Bool.{Bool, false, not, ◌||◌}
use mathlib.Core.List.{List, [], ◌∷◌, map}
use Prim.Native.Nat.{ℕ, ◌*◌}
use native.Mathlib.Omega.{arith}
use lib.ListN.{length}
use lib.Dec.{eqb}
use lib.Ieee.{Float}
use Rattle.lists.specs.Lists.{some}
use Rattle.lists.proofs.Bools.{and_false_right, or_neither, or_false_left, or_false_right}
use Rattle.mesh.specs.Limits.{point_width, texel_width}
use Rattle.mesh.specs.Mesh.{Mesh, position, texture, normal, missing, corners_in, position_count, texture_count, normal_count}
use Rattle.mesh.specs.Table.{beyond, beyond_unless_missing, astray, astray_at, mesh_number}
use Rattle.mesh.proofs.Numbers.{clear}
use Rattle.mesh.proofs.Accepted.{Accepted, accepted}
use Rattle.unused.specs.Compaction.{uses_of, entries}
use Rattle.unused.specs.Working.{column, Pointed}
use Rattle.unused.proofs.Uses.{uses_below}
use Rattle.unused.proofs.Entries.{length_entries}

-- a test that fails wherever another does fails of all where the other does
none_either :
    {A B : Type 0} (p : A → Bool) (q : B → Bool) (f : A → B) (l : List A) → ((x : A) → p x ≡ false → q (f x) ≡ false)
    → some p l ≡ false → some q (map f l) ≡ false
none_either p q f [] w h = refl
none_either p q f (x ∷ l) w h =
    or_neither (q (f x)) (some q (map f l))
    (w x (or_false_left (p x) (some p l) h))
    (none_either p q f l w (or_false_right (p x) (some p l) h))

module _ (m : Mesh) (h : mesh_number m ≡ 0) where
  none_astray : some (astray_at m) (corners_in m.corners) ≡ false
  unfolding astray
  none_astray = (clear m h).found

  pub pointed_positions : Pointed m.positions point_width m.corners 0
  pointed_positions =
      let a : Accepted m = accepted m h in
      record {
        least = omega arith;
        most = omega arith;
        is_column = omega arith;
        count = position_count m;
        whole = omega (arith, a.whole.positions);
        few = omega (arith, a.limits.positions);
        within = none_either (astray_at m) (beyond_unless_missing (position_count m)) position (corners_in m.corners)
            (λ c e.
            and_false_right (not (eqb (position c) missing)) (beyond (position_count m) (position c))
            (or_false_left (beyond (position_count m) (position c)) (beyond_unless_missing (texture_count m) (texture c))
            (or_false_left (beyond (position_count m) (position c) || beyond_unless_missing (texture_count m) (texture c))
            (beyond_unless_missing (normal_count m) (normal c)) e)))
            none_astray;
      }

  pub pointed_textures : Pointed m.textures texel_width m.corners 1
  pointed_textures =
      let a : Accepted m = accepted m h in
      record {
        least = omega arith;
        most = omega arith;
        is_column = omega arith;
        count = texture_count m;
        whole = omega (arith, a.whole.textures);
        few = omega (arith, a.limits.textures);
        within = none_either (astray_at m) (beyond_unless_missing (texture_count m)) texture (corners_in m.corners)
            (λ c e.
            or_false_right (beyond (position_count m) (position c)) (beyond_unless_missing (texture_count m) (texture c))
            (or_false_left (beyond (position_count m) (position c) || beyond_unless_missing (texture_count m) (texture c))
            (beyond_unless_missing (normal_count m) (normal c)) e))
            none_astray;
      }

  pub pointed_normals : Pointed m.normals point_width m.corners 2
  pointed_normals =
      let a : Accepted m = accepted m h in
      record {
        least = omega arith;
        most = omega arith;
        is_column = omega arith;
        count = normal_count m;
        whole = omega (arith, a.whole.normals);
        few = omega (arith, a.limits.normals);
        within = none_either (astray_at m) (beyond_unless_missing (normal_count m)) normal (corners_in m.corners)
            (λ c e. or_false_right (beyond (position_count m) (position c) || beyond_unless_missing (texture_count m) (texture c))
            (beyond_unless_missing (normal_count m) (normal c)) e)
            none_astray;
      }

-- the new list has as many entries as are used
pub length_kept :
    (attrs : List Float) (w : ℕ) (cs : List ℕ) (q : ℕ) → Pointed attrs w cs q
    → length (entries w attrs (uses_of (column q cs))) ≡ length (uses_of (column q cs)) * w
length_kept attrs w cs q p =
    length_entries attrs w p.count (uses_of (column q cs)) p.whole (uses_below p.count (column q cs) p.within)
