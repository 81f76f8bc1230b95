-- What the reader answers: its number, its counts, and each lent list afterwards. Assumes nothing.
use Rattle.std.specs.Prelude.{ℕ, ◌/◌, ◌≡◌, List, length}
use Rattle.std.proofs.lemmas.List.Edits.{sets}
use Rattle.mesh.specs.Limits.{width}
use Rattle.mesh.specs.Mesh.{Mesh, position_count, texture_count, normal_count}
use Rattle.mesh.specs.Table.{after}
use Rattle.reading.specs.declared.MeshRead.{MeshRead}
use Rattle.reading.specs.Reading.{reading_number, panel_mesh, room_of}

-- what the call answers, and what the five lent lists hold before and after it: on 0 the file's mesh from their beginning on, room past it
-- unchanged, and its counts; on any other number nothing is written, and each count is 0
pub record PanelRead (file : List ℕ) (before afterwards : Mesh) (answer : MeshRead) : Type 0 where
  pub number : answer.number ≡ reading_number (room_of before) file
  pub position_count_is : answer.positions ≡ after answer.number (position_count (panel_mesh file)) 0
  pub texture_count_is : answer.textures ≡ after answer.number (texture_count (panel_mesh file)) 0
  pub normal_count_is : answer.normals ≡ after answer.number (normal_count (panel_mesh file)) 0
  pub corner_count_is : answer.corners ≡ after answer.number (length (panel_mesh file).corners / width) 0
  pub face_count : answer.faces ≡ after answer.number (length (panel_mesh file).sizes) 0
  pub positions : afterwards.positions ≡ after answer.number (sets before.positions 0 (panel_mesh file).positions) before.positions
  pub textures : afterwards.textures ≡ after answer.number (sets before.textures 0 (panel_mesh file).textures) before.textures
  pub normals : afterwards.normals ≡ after answer.number (sets before.normals 0 (panel_mesh file).normals) before.normals
  pub corners : afterwards.corners ≡ after answer.number (sets before.corners 0 (panel_mesh file).corners) before.corners
  pub sizes : afterwards.sizes ≡ after answer.number (sets before.sizes 0 (panel_mesh file).sizes) before.sizes

-- a refusal: each count beside the number is 0
abbrev pub refused_with : ℕ → MeshRead
refused_with n = record { number = n; positions = 0; textures = 0; normals = 0; corners = 0; faces = 0 }

-- the mesh m was handed over
pub record Handed (m before afterwards : Mesh) (answer : MeshRead) : Type 0 where
  pub number : answer.number ≡ 0
  pub position_count_is : answer.positions ≡ position_count m
  pub texture_count_is : answer.textures ≡ texture_count m
  pub normal_count_is : answer.normals ≡ normal_count m
  pub corner_count_is : answer.corners ≡ length m.corners / width
  pub face_count : answer.faces ≡ length m.sizes
  pub positions : afterwards.positions ≡ sets before.positions 0 m.positions
  pub textures : afterwards.textures ≡ sets before.textures 0 m.textures
  pub normals : afterwards.normals ≡ sets before.normals 0 m.normals
  pub corners : afterwards.corners ≡ sets before.corners 0 m.corners
  pub sizes : afterwards.sizes ≡ sets before.sizes 0 m.sizes
