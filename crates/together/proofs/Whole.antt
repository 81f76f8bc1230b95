-- The whole call: a refusal, and a mesh that earns 0, where what the parts leave is what document 01 says. Assumes nothing.
use mathlib.Core.Path.{◌≡◌, sym, ap, ◌∙◌}
use mathlib.Core.List.{List, map}
use Prim.Native.Nat.{ℕ}
use lib.ListN.{length}
use lib.Seq.{sets}
use lib.Ieee.{Float}
use Rattle.lists.specs.Lists.{joined}
use Rattle.mesh.specs.Mesh.{Mesh, Corner, corners_in, position_count, texture_count, normal_count}
use Rattle.mesh.specs.Table.{after}
use Rattle.mesh.proofs.After.{after_refused}
use Rattle.floating.specs.Scaling.{scaled_list}
use Rattle.nearby.specs.Pairs.{compared_pairs}
use Rattle.together.specs.Merging.{merge_number, merged_to, position_pairs, texture_pairs, normal_pairs, merged_corners, PutTogether}
use Rattle.together.specs.Working.{Settled, sent_corner}
use Rattle.together.proofs.Ready.{corners_same}

-- a refusal
pub refused :
    (m : Mesh) (t : Float) (out : List ℕ) (n : ℕ) → n ≡ merge_number m t (length out) → (n ≡ 0 → ⊥)
    → PutTogether m t out out (record { number = n; positions = 0; textures = 0; normals = 0 })
refused m t out n e h = record {
  number = e;
  position_pairs_is = sym (old _ 0);
  texture_pairs_is = sym (old _ 0);
  normal_pairs_is = sym (old _ 0);
  corners = sym (old _ out);
}
  where
    old : {A : Type 0} (x y : A) → after n x y ≡ y
    old x y = after_refused n x y h

-- a mesh that earns 0
module _
    (m : Mesh) (t : Float) (out : List ℕ) (earns : merge_number m t (length out) ≡ 0) (p p₀ u u₀ n n₀ : List ℕ)
    (sp : Settled (position_count m) (merged_to t 3 (scaled_list m.positions)) p₀ p)
    (su : Settled (texture_count m) (merged_to t 2 m.textures) u₀ u) (sn : Settled (normal_count m) (merged_to t 3 m.normals) n₀ n) where
  pub accepted_call :
      (i j k : ℕ) (out' : List ℕ)
      → i ≡ compared_pairs t 3 (scaled_list m.positions)
      → j ≡ compared_pairs t 2 m.textures
      → k ≡ compared_pairs t 3 m.normals
      → out' ≡ sets out 0 (joined (map (sent_corner p u n) (corners_in m.corners)))
      → PutTogether m t out out' (record { number = 0; positions = i; textures = j; normals = k })
  unfolding position_pairs texture_pairs normal_pairs merged_corners
  accepted_call i j k out' ei ej ek eo = record {
    number = sym earns;
    position_pairs_is = ei;
    texture_pairs_is = ej;
    normal_pairs_is = ek;
    corners = eo ∙ ap (λ (r : List Corner). sets out 0 (joined r)) (corners_same m t out earns p p₀ u u₀ n n₀ sp su sn);
  }
