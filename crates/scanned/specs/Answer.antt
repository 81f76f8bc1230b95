-- What `read_scan` answers: its number, its counts, and each lent list afterwards. Assumes nothing.
use Rattle.std.specs.Prelude.{◌/◌, ◌≡◌, List, ℕ, length}
use Rattle.std.proofs.lemmas.List.Edits.{sets}
use Rattle.mesh.specs.Limits.{width}
use Rattle.mesh.specs.Mesh.{Mesh, position_count}
use Rattle.mesh.specs.Table.{after}
use Rattle.reading.specs.declared.MeshRead.{MeshRead}
use Rattle.reading.specs.Reading.{room_of}
use Rattle.scanned.specs.Scan.{scan_number, scan_mesh}

-- what the call answers, and what the five lent lists hold before and after it: on 0 the file's mesh from their beginning on, room past it
-- unchanged, and its counts; on any other number nothing is written, and each count is 0. A scan has no texture points and no normals, so
-- that those two lists are never written
pub record ScanRead (file : List ℕ) (before afterwards : Mesh) (answer : MeshRead) : Type 0 where
  pub number : answer.number ≡ scan_number (room_of before) file
  pub position_count_is : answer.positions ≡ after answer.number (position_count (scan_mesh file)) 0
  pub texture_count_is : answer.textures ≡ 0
  pub normal_count_is : answer.normals ≡ 0
  pub corner_count_is : answer.corners ≡ after answer.number (length (scan_mesh file).corners / width) 0
  pub face_count : answer.faces ≡ after answer.number (length (scan_mesh file).sizes) 0
  pub positions : afterwards.positions ≡ after answer.number (sets before.positions 0 (scan_mesh file).positions) before.positions
  pub textures : afterwards.textures ≡ before.textures
  pub normals : afterwards.normals ≡ before.normals
  pub corners : afterwards.corners ≡ after answer.number (sets before.corners 0 (scan_mesh file).corners) before.corners
  pub sizes : afterwards.sizes ≡ after answer.number (sets before.sizes 0 (scan_mesh file).sizes) before.sizes
