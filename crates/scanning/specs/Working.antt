-- The steps of the code, and no rules: a scan opened and cleaned. Assumes nothing.
use Rattle.std.specs.Prelude.{ℕ, ◌≡◌, List, []}
use Rattle.mesh.specs.Mesh.{Mesh}
use Rattle.reading.specs.declared.MeshRead.{MeshRead}
use Rattle.cleaning.specs.Cleaning.{cleaned}
use Rattle.scanned.specs.Scan.{scan_number, scan_mesh}
use Rattle.opening.specs.Opening.{Fronts}

-- the scan's number; on 0 the mesh that is left of it stands at the front of the lists
pub record ScanOpened (file : List ℕ) (afterwards : Mesh) (answer : MeshRead) : Type 0 where
  pub number : answer.number ≡ scan_number [] file
  pub left : answer.number ≡ 0 → Fronts (cleaned (scan_mesh file)) afterwards answer
