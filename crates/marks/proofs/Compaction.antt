-- Compaction reads no mark and moves it. Assumes nothing.
use mathlib.Core.Path.{◌≡◌, ap, ◌∙◌}
use mathlib.Core.List.{[], ◌∷◌, map}
use Prim.Native.Nat.{ℕ}
use Rattle.mesh.specs.Limits.{point_width, texel_width}
use Rattle.mesh.specs.Mesh.{Mesh, mesh_of, Corner, position, texture, normal, corners_in}
use Rattle.unused.specs.Compaction.{uses_of, renumber, entries, used_positions, used_textures, used_normals, renumbered, compacted}
use Rattle.unused.proofs.Columns.{new_corners}
use Rattle.marks.specs.Marks.{remarked, remarked_mesh, Moved}
use Rattle.marks.proofs.Remarked.{position_kept, texture_kept, normal_kept, mark_changed, corners_remarked, column_remarked, flat_changed}

module _ (g : ℕ → ℕ) (m : Mesh) where
  column : (q : Corner → ℕ) → ((c : Corner) → q (remarked g c) ≡ q c) → map q (corners_in (remarked g m.corners)) ≡ map q (corners_in m.corners)
  column q h = ap (map q) (corners_remarked g m.corners) ∙ column_remarked g q h (corners_in m.corners)

  positions_same : used_positions (remarked_mesh g m) ≡ used_positions m
  unfolding used_positions remarked_mesh
  positions_same = ap uses_of (column position (position_kept g))

  textures_same : used_textures (remarked_mesh g m) ≡ used_textures m
  unfolding used_textures remarked_mesh
  textures_same = ap uses_of (column texture (texture_kept g))

  normals_same : used_normals (remarked_mesh g m) ≡ used_normals m
  unfolding used_normals remarked_mesh
  normals_same = ap uses_of (column normal (normal_kept g))

  renumbered_remarked : (c : Corner) → renumbered (remarked_mesh g m) (remarked g c) ≡ remarked g (renumbered m c)
  unfolding renumbered
  renumbered_remarked c = λ i.
      renumber (positions_same i) (position_kept g c i)
      ∷ renumber (textures_same i) (texture_kept g c i)
      ∷ renumber (normals_same i) (normal_kept g c i)
      ∷ mark_changed g c i
      ∷ []

pub compacted_moves : Moved compacted
unfolding compacted remarked_mesh
compacted_moves g m h = λ i.
    mesh_of
    (entries point_width m.positions (positions_same g m i))
    (entries texel_width m.textures (textures_same g m i))
    (entries point_width m.normals (normals_same g m i))
    (flat_changed g (renumbered (remarked_mesh g m)) (renumbered m) (renumbered_remarked g m) m.corners (new_corners m (corners_in m.corners)) i)
    m.sizes
