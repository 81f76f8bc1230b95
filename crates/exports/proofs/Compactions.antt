-- Two accepted meshes of one cover, compacted: what their sheets say. Assumes nothing.
use mathlib.Core.Path.{◌≡◌, refl, sym, ap, ◌∙◌}
use mathlib.Core.Bool.{false}
use mathlib.Core.List.{List, [], ◌∷◌, ◌++◌, map, map-append}
use Prim.Native.Nat.{ℕ}
use lib.ListN.{length, length-map}
use lib.Dec.{eqb}
use Rattle.lists.specs.Lists.{has, joined}
use Rattle.mesh.specs.Mesh.{Mesh, Ring, Corner, position, texture, normal, corners_in, faces, position_count, texture_count, normal_count}
use Rattle.mesh.specs.Table.{mesh_number}
use Rattle.mesh.proofs.Faces.{length_rings}
use Rattle.unused.specs.Compaction.{compacted, used_positions, used_textures, used_normals}
use Rattle.unused.proofs.Laws.{face_order, positions_counted, textures_counted, normals_counted}
use Rattle.edges.specs.Edges.{edges_of, verdict}
use Rattle.panels.specs.Panels.{panels}
use Rattle.order.specs.Same.{Same}
use Rattle.order.specs.Demand.{by_position}
use Rattle.order.proofs.Matched.{same_map}
use Rattle.calls.proofs.Counts.{same_length}
use Rattle.calls.proofs.Seats.{as_many_panels}
use Rattle.lines.specs.Lines.{mesh_line, verdict_line, panels_line}
use Rattle.finding.specs.Found.{found_of, found_in}
use Rattle.renumbered.specs.Renumbered.{OneToOne}
use Rattle.exports.specs.Covers.{renumbered_by, OneCover, CoverKept}
use Rattle.exports.specs.Sheets.{first_lines, SameButAttributes}
use Rattle.turning.proofs.Edgewise.{rings_own}
use Rattle.renumbered.proofs.Compacting.{joined_positions, none_missing}
use Rattle.renumbered.proofs.Renumbered.{compaction_keeps}
use Rattle.exports.proofs.Covers.{covers_agree}
use Rattle.exports.proofs.Used.{some_same, column_same, as_many_used}
use Rattle.exports.proofs.Distinct.{as_many_renumbered}

-- ---- two exports of one cover

joined_renumbered : (g : ℕ → ℕ) (ls : List (List ℕ)) → joined (map (map g) ls) ≡ map g (joined ls)
joined_renumbered g [] = refl
joined_renumbered g (l ∷ ls) = ap (λ (r : List ℕ). map g l ++ r) (joined_renumbered g ls) ∙ sym (map-append g l (joined ls))

module _ (g : ℕ → ℕ) (m n : Mesh) (y : mesh_number m ≡ 0) (z : mesh_number n ≡ 0) (c : OneCover g (faces m) (faces n)) where
  agreed : CoverKept g (faces m) (faces n)
  agreed = covers_agree g m n y z c

  positions_are : (k : Mesh) → mesh_number k ≡ 0 → joined (by_position (faces k)) ≡ map position (corners_in k.corners)
  positions_are k e = joined_positions (faces k) ∙ ap (map position) (face_order k e)

  position_column : (x : ℕ) → has x (map g (map position (corners_in m.corners))) ≡ has x (map position (corners_in n.corners))
  position_column x =
      ap (λ (l : List ℕ). has x (map g l)) (sym (positions_are m y))
      ∙ ap (has x) (sym (joined_renumbered g (by_position (faces m))))
      ∙ some_same (eqb x) c.same_positions
      ∙ ap (has x) (positions_are n z)

  one_to_one : OneToOne g (map position (corners_in m.corners))
  one_to_one = rw (sym (positions_are m y)) c.one_to_one

  positions_same : position_count (compacted m) ≡ position_count (compacted n)
  unfolding used_positions
  positions_same =
      positions_counted m y
      ∙ as_many_renumbered g (map position (corners_in m.corners)) (map position (corners_in n.corners)) one_to_one (none_missing m y) (none_missing n z) position_column
      ∙ sym (positions_counted n z)

  -- the rings of the one, renumbered, are as many as its faces
  as_many_rings : length (renumbered_by g (faces m)) ≡ length (faces m)
  as_many_rings = length-map (by_position (faces m)) (map g) ∙ length-map (faces m) (map position)

  sizes_same : length (compacted m).sizes ≡ length (compacted n).sizes
  unfolding compacted faces
  sizes_same =
      sym (length_rings m.sizes m.corners)
      ∙ sym as_many_rings
      ∙ same_length c.same_positions
      ∙ length-map (faces n) (map position)
      ∙ length_rings n.sizes n.corners

  verdict_same : verdict (edges_of (faces (compacted m))) ≡ verdict (edges_of (faces (compacted n)))
  verdict_same = (compaction_keeps m y).one_verdict ∙ agreed.one_verdict ∙ sym (compaction_keeps n z).one_verdict

  panels_same : length (panels false (faces (compacted m))) ≡ length (panels false (faces (compacted n)))
  panels_same =
      ap length (compaction_keeps m y).same_panels
      ∙ as_many_panels agreed.matching false (faces m) (faces n) as_many_rings (length-map (faces n) (map position)) agreed.same_panels
      ∙ sym (ap length (compaction_keeps n z).same_panels)

  pub but_attributes : SameButAttributes (found_in (compacted m)) (found_in (compacted n))
  unfolding found_in found_of
  but_attributes = record { same_positions = positions_same; same_faces = sizes_same; same_verdict = verdict_same; same_panels = panels_same }

-- ---- of those whose positions have the same numbers

pub own_cover : (m n : List Ring) → Same (by_position m) (by_position n) → OneCover (λ i. i) m n
own_cover m n s = record { one_to_one = λ i j h k. refl; same_positions = rw (rings_own (by_position m)) s }

-- ---- two whose faces are the same, corner by corner

module _ (m n : Mesh) (y : mesh_number m ≡ 0) (z : mesh_number n ≡ 0) (s : Same (faces m) (faces n)) where
  column : (col : Corner → ℕ) (x : ℕ) → has x (map col (corners_in m.corners)) ≡ has x (map col (corners_in n.corners))
  column col x =
      ap (λ (l : List Corner). has x (map col l)) (sym (face_order m y)) ∙ column_same col s x ∙ ap (λ (l : List Corner). has x (map col l)) (face_order n z)

  textures_same : texture_count (compacted m) ≡ texture_count (compacted n)
  unfolding used_textures
  textures_same =
      textures_counted m y
      ∙ as_many_used (map texture (corners_in m.corners)) (map texture (corners_in n.corners)) (column texture)
      ∙ sym (textures_counted n z)

  normals_same : normal_count (compacted m) ≡ normal_count (compacted n)
  unfolding used_normals
  normals_same =
      normals_counted m y
      ∙ as_many_used (map normal (corners_in m.corners)) (map normal (corners_in n.corners)) (column normal)
      ∙ sym (normals_counted n z)

  pub lines_same : first_lines (found_in (compacted m)) ≡ first_lines (found_in (compacted n))
  unfolding found_in found_of
  lines_same =
      let c : OneCover (λ i. i) (faces m) (faces n) = own_cover (faces m) (faces n) (same_map position s) in
      λ i.
      mesh_line (positions_same (λ i. i) m n y z c i) (textures_same i) (normals_same i) (sizes_same (λ i. i) m n y z c i)
      ++ verdict_line (verdict_same (λ i. i) m n y z c i)
      ++ panels_line (panels_same (λ i. i) m n y z c i)
