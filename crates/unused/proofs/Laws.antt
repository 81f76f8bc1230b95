-- What compaction gives, for those who go on with it: an accepted mesh with no more entries, whose faces are those that were given with
-- each corner renumbered one-to-one. Assumes nothing.
use mathlib.Core.Path.{◌≡◌, sym, ap, ◌∙◌}
use mathlib.Core.Bool.{true, false}
use mathlib.Core.List.{List, [], map, map-map}
use Prim.Native.Nat.{ℕ, ◌*◌, ◌/◌, ◌<◌}
use native.Mathlib.Omega.{arith}
use lib.ListN.{length, get_or, length-map, get_or-map}
use lib.Dec.{eqb}
use borrow.Author.Tests.{ne_eqb, lt-leb}
use Rattle.lists.specs.Lists.{some, has, joined, each}
use Rattle.lists.proofs.Bools.{or_neither}
use Rattle.lists.proofs.Mapping.{map_same}
use Rattle.lists.proofs.Parts.{some_none, each_joined, every_joined}
use Rattle.mesh.specs.Limits.{point_width, texel_width, width}
use Rattle.mesh.specs.Mesh.{Mesh, position, texture, normal, missing, corners_in, rings, faces, position_count, texture_count, normal_count}
use Rattle.mesh.specs.Table.{astray, astray_at, misfit, ungrouped, mesh_number}
use Rattle.mesh.proofs.Corners.{length-corners_in, get_or-corners_in, is_corner, corners_in-joined, length_corners}
use Rattle.mesh.proofs.Faces.{rings_are, rings_back, sizes_back, corners_back}
use Rattle.mesh.proofs.Numbers.{clear, clear_0}
use Rattle.mesh.proofs.Accepted.{Accepted, accepted, within_back, even_back}
use Rattle.unused.specs.Compaction.{renumber, used_positions, used_textures, used_normals, renumbered, compacted}
use Rattle.unused.specs.Promises.{AcceptedAgain, PositionsFewer, TexturesFewer, NormalsFewer, SameFaces}
use Rattle.unused.specs.Working.{column}
use Rattle.unused.proofs.Renumbering.{renumber_below, renumber_within, renumber_same}
use Rattle.unused.proofs.Accepting.{pointed_positions, pointed_textures, pointed_normals, length_kept}
use Rattle.unused.proofs.Columns.{used_few, used_small, new_corners, new_rings, corners_compacted, its_number, joined_map, lengths_map}

-- ---- counts

module _ (m : Mesh) (z : mesh_number m ≡ 0) where
  -- as many entries as are used
  pub positions_long : length (compacted m).positions ≡ length (used_positions m) * point_width
  unfolding compacted used_positions
  positions_long = length_kept m.positions point_width m.corners 0 (pointed_positions m z)

  pub positions_counted : position_count (compacted m) ≡ length (used_positions m)
  positions_counted = omega (arith, positions_long)

  pub textures_long : length (compacted m).textures ≡ length (used_textures m) * texel_width
  unfolding compacted used_textures
  textures_long = length_kept m.textures texel_width m.corners 1 (pointed_textures m z)

  pub textures_counted : texture_count (compacted m) ≡ length (used_textures m)
  textures_counted = omega (arith, textures_long)

  pub normals_long : length (compacted m).normals ≡ length (used_normals m) * point_width
  unfolding compacted used_normals
  normals_long = length_kept m.normals point_width m.corners 2 (pointed_normals m z)

  pub normals_counted : normal_count (compacted m) ≡ length (used_normals m)
  normals_counted = omega (arith, normals_long)

  -- no more than were given
  pub positions_fewer : PositionsFewer m
  unfolding used_positions
  positions_fewer = omega (arith, positions_counted, used_few (pointed_positions m z), (pointed_positions m z).whole)

  pub textures_fewer : TexturesFewer m
  unfolding used_textures
  textures_fewer = omega (arith, textures_counted, used_few (pointed_textures m z), (pointed_textures m z).whole)

  pub normals_fewer : NormalsFewer m
  unfolding used_normals
  normals_fewer = omega (arith, normals_counted, used_few (pointed_normals m z), (pointed_normals m z).whole)

  -- and as many corners
  pub corners_kept : length (compacted m).corners ≡ length m.corners
  unfolding compacted
  corners_kept =
      let a : length (joined (map (renumbered m) (corners_in m.corners))) ≡ width * length (map (renumbered m) (corners_in m.corners)) =
      length_corners (map (renumbered m) (corners_in m.corners)) (new_corners m (corners_in m.corners)) in
      let b : length (map (renumbered m) (corners_in m.corners)) ≡ length (corners_in m.corners) =
      length-map (corners_in m.corners) (renumbered m) in
      let c : length (corners_in m.corners) ≡ length m.corners / width = length-corners_in m.corners in
      omega (arith, (accepted m z).whole.corners)

  -- ---- the result is accepted

  position_there : (k : ℕ) → k < length (corners_in m.corners) → eqb (position (get_or (corners_in m.corners) k [])) missing ≡ false
  position_there k h =
      let l : k < length m.corners / width = rw (length-corners_in m.corners) at h in
      let e : position (get_or (corners_in m.corners) k []) ≡ get_or m.corners (width * k) 0 =
      ap position (get_or-corners_in m.corners k l) in
      let b : get_or m.corners (width * k) 0 < position_count m = ((accepted m z).corner k l).position in
      ne_eqb (position (get_or (corners_in m.corners) k [])) missing (λ g. omega (arith, (accepted m z).limits.positions))

  -- each index is below its new count, or missing
  none_astray :
      (k : ℕ) → k < length (corners_in m.corners) → astray_at (compacted m) (renumbered m (get_or (corners_in m.corners) k [])) ≡ false
  unfolding renumbered used_positions used_textures used_normals
  none_astray k h =
      let c = get_or (corners_in m.corners) k [] in
      or_neither _ _
      (or_neither _ _
      (lt-leb (position_count (compacted m)) (renumber (used_positions m) (position c))
      (rw positions_counted
      (renumber_below (column 0 m.corners) (used_small (pointed_positions m z)) (position c)
      (its_number position (corners_in m.corners) k h) (position_there k h))))
      (rw textures_counted (renumber_within (column 1 m.corners) (used_small (pointed_textures m z)) (texture c)
      (its_number texture (corners_in m.corners) k h))))
      (rw normals_counted (renumber_within (column 2 m.corners) (used_small (pointed_normals m z)) (normal c)
      (its_number normal (corners_in m.corners) k h)))

  all_found : astray (compacted m) ≡ false
  unfolding astray
  all_found =
      ap (some (astray_at (compacted m))) (corners_compacted m)
      ∙ some_none (astray_at (compacted m)) (renumbered m []) (map (renumbered m) (corners_in m.corners))
      (λ k h.
      ap (astray_at (compacted m)) (get_or-map (renumbered m) (corners_in m.corners) k [])
      ∙ none_astray k (rw (length-map (corners_in m.corners) (renumbered m)) at h))

  pub accepted_compacted : AcceptedAgain m
  unfolding misfit ungrouped compacted
  accepted_compacted =
      let a : Accepted m = accepted m z in
      clear_0 (compacted m) (record {
        shaped = record {
          within = within_back (compacted m) (record {
            positions = omega (arith, a.limits.positions, positions_fewer, positions_long);
            textures = omega (arith, a.limits.textures, textures_fewer, textures_long);
            normals = omega (arith, a.limits.normals, normals_fewer, normals_long);
            corners = omega (arith, a.limits.corners, corners_kept);
            sizes = a.limits.sizes;
          });
          even = even_back (compacted m) (record {
            positions = omega (arith, positions_long);
            textures = omega (arith, textures_long);
            normals = omega (arith, normals_long);
            corners = omega (arith, a.whole.corners, corners_kept);
            adds = a.whole.adds ∙ sym corners_kept;
          });
          fit = (clear m z).shaped.fit;
          grouped = (clear m z).shaped.grouped;
        };
        found = all_found;
      })

  -- ---- different indices stay different

  module _ (i j : ℕ) where
    pub position_same :
        has i (map position (corners_in m.corners)) ≡ true → has j (map position (corners_in m.corners)) ≡ true
        → eqb (renumber (used_positions m) i) (renumber (used_positions m) j) ≡ eqb i j
    unfolding used_positions
    position_same = renumber_same (map position (corners_in m.corners)) (used_small (pointed_positions m z)) i j

    pub normal_same :
        has i (map normal (corners_in m.corners)) ≡ true → has j (map normal (corners_in m.corners)) ≡ true
        → eqb (renumber (used_normals m) i) (renumber (used_normals m) j) ≡ eqb i j
    unfolding used_normals
    normal_same = renumber_same (map normal (corners_in m.corners)) (used_small (pointed_normals m z)) i j

  -- ---- the faces

  -- the flat list of corners is in face order
  pub face_order : joined (faces m) ≡ corners_in m.corners
  unfolding faces
  face_order =
      sym (corners_in-joined (joined (faces m)) (every_joined is_corner (faces m) ∙ rings_are m.sizes m.corners))
      ∙ ap corners_in (sym (each_joined (faces m)) ∙ corners_back m.sizes m.corners (accepted m z).whole.adds)

  -- the faces are those that were given, each corner renumbered
  pub faces_compacted : SameFaces m
  unfolding faces compacted
  faces_compacted =
      let fs = faces m in
      let gs = map (map (renumbered m)) fs in
      let s : map length gs ≡ m.sizes =
      lengths_map (renumbered m) fs ∙ sizes_back m.sizes m.corners (omega (arith, (accepted m z).whole.adds)) in
      let c : each joined gs ≡ joined (map (renumbered m) (corners_in m.corners)) =
      each_joined gs ∙ ap joined (joined_map (renumbered m) fs ∙ ap (map (renumbered m)) face_order) in
      ap (λ (l : List ℕ). rings l (joined (map (renumbered m) (corners_in m.corners)))) (sym s)
      ∙ ap (rings (map length gs)) (sym c)
      ∙ rings_back gs (new_rings m fs)

  -- so are their positions
  pub face_positions :
      map (map position) (faces (compacted m)) ≡ map (map (renumber (used_positions m))) (map (map position) (faces m))
  unfolding renumbered
  face_positions =
      ap (map (map position)) faces_compacted
      ∙ map-map (map position) (map (renumbered m)) (faces m)
      ∙ map_same (λ f. map position (map (renumbered m) f)) (λ f. map (renumber (used_positions m)) (map position f)) [] (faces m)
      (λ k h. map-map position (renumbered m) (get_or (faces m) k [])
      ∙ sym (map-map (renumber (used_positions m)) position (get_or (faces m) k [])))
      ∙ sym (map-map (map (renumber (used_positions m))) (map position) (faces m))
