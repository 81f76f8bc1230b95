-- What compaction leaves: every entry is used, and a second compaction changes nothing. Assumes nothing.
use mathlib.Core.Path.{◌≡◌, ap, ◌∙◌}
use mathlib.Core.List.{[], ◌∷◌, map, map-map}
use Prim.Native.Nat.{ℕ, ◌<◌}
use lib.ListN.{length, get_or}
use Rattle.lists.specs.Lists.{has, joined}
use Rattle.lists.proofs.Mapping.{map_same}
use Rattle.mesh.specs.Mesh.{Mesh, mesh_of, position, texture, normal, mark, corners_in}
use Rattle.mesh.specs.Table.{mesh_number}
use Rattle.unused.specs.Compaction.{used_positions, used_textures, used_normals, renumbered, compacted}
use Rattle.unused.specs.Promises.{EveryPositionUsed, EveryTextureUsed, EveryNormalUsed, SecondTimeSame}
use Rattle.unused.proofs.Renumbering.{every_number}
use Rattle.unused.proofs.Accepting.{pointed_positions, pointed_textures, pointed_normals}
use Rattle.unused.proofs.Columns.{entries_twice, number_twice, corners_compacted, positions_renumbered, textures_renumbered, normals_renumbered, its_number}
use Rattle.unused.proofs.Laws.{positions_counted, textures_counted, normals_counted}

module _ (m : Mesh) (z : mesh_number m ≡ 0) where
  -- ---- every entry is used

  pub every_position_used : EveryPositionUsed m
  unfolding used_positions
  every_position_used i h =
      ap (has i) (positions_renumbered m) ∙ every_number (map position (corners_in m.corners)) i (rw (positions_counted m z) at h)

  pub every_texture_used : EveryTextureUsed m
  unfolding used_textures
  every_texture_used i h =
      ap (has i) (textures_renumbered m) ∙ every_number (map texture (corners_in m.corners)) i (rw (textures_counted m z) at h)

  pub every_normal_used : EveryNormalUsed m
  unfolding used_normals
  every_normal_used i h =
      ap (has i) (normals_renumbered m) ∙ every_number (map normal (corners_in m.corners)) i (rw (normals_counted m z) at h)

  -- ---- a second time

  corner_twice :
      (k : ℕ) → k < length (corners_in m.corners)
      → renumbered (compacted m) (renumbered m (get_or (corners_in m.corners) k [])) ≡ renumbered m (get_or (corners_in m.corners) k [])
  unfolding renumbered used_positions used_textures used_normals
  corner_twice k h =
      let cs = corners_in m.corners in
      let c = get_or cs k [] in
      let p = number_twice (pointed_positions m z) (map position (corners_in (compacted m).corners)) (positions_renumbered m)
      (position c) (its_number position cs k h) in
      let t = number_twice (pointed_textures m z) (map texture (corners_in (compacted m).corners)) (textures_renumbered m) (texture c)
      (its_number texture cs k h) in
      let n = number_twice (pointed_normals m z) (map normal (corners_in (compacted m).corners)) (normals_renumbered m) (normal c)
      (its_number normal cs k h) in
      λ i. p i ∷ t i ∷ n i ∷ mark c ∷ []

  corners_twice : map (renumbered (compacted m)) (corners_in (compacted m).corners) ≡ map (renumbered m) (corners_in m.corners)
  corners_twice =
      ap (map (renumbered (compacted m))) (corners_compacted m)
      ∙ map-map (renumbered (compacted m)) (renumbered m) (corners_in m.corners)
      ∙ map_same (λ c. renumbered (compacted m) (renumbered m c)) (renumbered m) [] (corners_in m.corners) corner_twice

  -- compacting a second time changes nothing
  pub compacted_again : SecondTimeSame m
  unfolding compacted used_positions used_textures used_normals
  compacted_again =
      let p = entries_twice (pointed_positions m z) (map position (corners_in (compacted m).corners)) (positions_renumbered m) in
      let t = entries_twice (pointed_textures m z) (map texture (corners_in (compacted m).corners)) (textures_renumbered m) in
      let n = entries_twice (pointed_normals m z) (map normal (corners_in (compacted m).corners)) (normals_renumbered m) in
      λ i. mesh_of (p i) (t i) (n i) (joined (corners_twice i)) m.sizes
