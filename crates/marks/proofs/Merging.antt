-- Merging gives each corner the indices of representatives: it reads no mark, and moves it. Assumes nothing.
use mathlib.Core.Path.{◌≡◌, refl, ap, ◌∙◌}
use mathlib.Core.Bool.{true}
use mathlib.Core.List.{List, [], ◌∷◌, map, map-map}
use Prim.Native.Nat.{ℕ}
use lib.Ieee.{Float}
use Rattle.mesh.specs.Mesh.{Mesh, mesh_of, Corner, Ring, mark, corners_in}
use Rattle.mesh.proofs.Corners.{corners_in-joined}
use Rattle.mesh.proofs.Faces.{is_ring}
use Rattle.floating.specs.Scaling.{scaled_list}
use Rattle.together.specs.Merging.{any_boundless, any_distant, merge_number, merged_to, position_pairs, texture_pairs, normal_pairs, unless_missing, merged_corner, merged_corners}
use Rattle.marks.specs.Marks.{remarked, remarked_mesh, Unread, Moved}
use Rattle.marks.specs.Promises.{merged, marks_of}
use Rattle.marks.proofs.Remarked.{position_kept, texture_kept, normal_kept, mark_changed, length_remarked, flat_changed}
use Rattle.marks.proofs.Accepted.{number_remarked}

pub merge_number_lem : (t : Float) (room : ℕ) → Unread (λ m. merge_number m t room)
unfolding merge_number any_boundless any_distant remarked_mesh
merge_number_lem t room g m = rw (number_remarked g m, length_remarked g m.corners)

pub pairs_unread : (t : Float) → Unread (λ m. position_pairs m t ∷ texture_pairs m t ∷ normal_pairs m t ∷ [])
unfolding position_pairs texture_pairs normal_pairs remarked_mesh
pairs_unread t g m = refl

module _ (t : Float) (m : Mesh) where
  whole : (r : Ring) → is_ring (map (merged_corner m t) r) ≡ true
  unfolding merged_corner
  whole [] = refl
  whole (c ∷ r) = whole r

  corner_remarked : (g : ℕ → ℕ) (c : Corner) → merged_corner (remarked_mesh g m) t (remarked g c) ≡ remarked g (merged_corner m t c)
  unfolding merged_corner remarked_mesh
  corner_remarked g c = λ i.
      merged_to t 3 (scaled_list m.positions) (position_kept g c i)
      ∷ unless_missing (merged_to t 2 m.textures) (texture_kept g c i)
      ∷ unless_missing (merged_to t 3 m.normals) (normal_kept g c i)
      ∷ mark_changed g c i
      ∷ []

pub merged_moves : (t : Float) → Moved (merged t)
unfolding merged merged_corners remarked_mesh
merged_moves t g m h =
    ap (λ (cs : List ℕ). mesh_of m.positions m.textures m.normals cs m.sizes)
    (flat_changed g (merged_corner (remarked_mesh g m) t) (merged_corner m t) (corner_remarked t m g) m.corners (whole t m (corners_in m.corners)))

pub merged_marks : (t : Float) (m : Mesh) → marks_of (merged t m) ≡ marks_of m
unfolding merged merged_corners merged_corner
merged_marks t m =
    ap (map mark) (corners_in-joined (map (merged_corner m t) (corners_in m.corners)) (whole t m (corners_in m.corners)))
    ∙ map-map mark (merged_corner m t) (corners_in m.corners)
