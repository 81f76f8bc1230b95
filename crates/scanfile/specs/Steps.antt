-- The steps of the code, and no rules: what is asked once the length is known, and what reading the points comes to. Assumes nothing.
use Rattle.std.specs.Prelude.{◌≡◌, false, List, ℕ, ◌*◌, ◌/◌, ◌≤◌, length, Float}
use Rattle.std.proofs.lemmas.List.Edits.{sets}
use Rattle.lists.specs.Lists.{some}
use Rattle.mesh.specs.Limits.{width, least_ring, face_limit, point_numbers, corner_numbers}
use Rattle.mesh.specs.Mesh.{position_count}
use Rattle.mesh.specs.Table.{after}
use Rattle.reading.specs.declared.MeshRead.{MeshRead}
use Rattle.scanned.specs.Scan.{scan_count, scan_length, point_at, not_finite, mesh_from, points_number}
use Rattle.matching.specs.Steps.{ScanRows}
use Rattle.scanned.specs.Seen.{upto}

-- lists at the full limits
pub record Roomy (p : List Float) (c s : List ℕ) : Type 0 where
  pub positions : point_numbers ≤ length p
  pub corners : corner_numbers ≤ length c
  pub sizes : face_limit ≤ length s

-- a file as long as its count asks
pub record PointsRoom (file : List ℕ) (p : List Float) (c s : List ℕ) : Type 0 where
  pub few : scan_count file ≤ face_limit
  pub long : length file ≡ scan_length (scan_count file)
  pub roomy : Roomy p c s

-- its points are finite, and a number for each
pub record NumbersRoom (file numbers : List ℕ) (p : List Float) (c s : List ℕ) : Type 0 where
  pub rows : ScanRows file (length numbers)
  pub few : length numbers ≤ least_ring * face_limit
  pub finite : some not_finite (upto (point_at file) (length numbers)) ≡ false
  pub roomy : Roomy p c s

-- what reading points comes to: the number that they earn; on 0 their mesh and its counts, on any other nothing
pub record PointsRead (ps : List ℕ) (p : List Float) (c s : List ℕ) (p' : List Float) (c' s' : List ℕ) (answer : MeshRead) : Type 0 where
  pub number : answer.number ≡ points_number ps
  pub position_count_is : answer.positions ≡ after answer.number (position_count (mesh_from ps)) 0
  pub texture_count_is : answer.textures ≡ 0
  pub normal_count_is : answer.normals ≡ 0
  pub corner_count_is : answer.corners ≡ after answer.number (length (mesh_from ps).corners / width) 0
  pub face_count : answer.faces ≡ after answer.number (length (mesh_from ps).sizes) 0
  pub positions : p' ≡ after answer.number (sets p 0 (mesh_from ps).positions) p
  pub corners : c' ≡ after answer.number (sets c 0 (mesh_from ps).corners) c
  pub sizes : s' ≡ after answer.number (sets s 0 (mesh_from ps).sizes) s
