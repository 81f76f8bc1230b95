-- The steps of the code, and no rules of document 01: what its functions hand to one another. Assumes nothing.
use Rattle.std.specs.Prelude.{ℕ, ◌*◌, ◌≡◌, List, [], length}
use Rattle.lists.specs.Putting.{Front}
use Rattle.mesh.specs.Limits.{width, face_limit, corner_numbers}
use Rattle.mesh.specs.Mesh.{Mesh, position_count, texture_count, normal_count}
use Rattle.mesh.specs.Table.{mesh_number}
use Rattle.reading.specs.declared.MeshRead.{MeshRead}
use Rattle.reading.specs.Reading.{reading_number, panel_mesh}
use Rattle.cleaning.specs.Cleaning.{cleaned}

-- lists at the full limits for the corners and sizes of faces
pub record FaceRoom (corners sizes : List ℕ) : Type 0 where
  pub corners_long : length corners ≡ corner_numbers
  pub sizes_long : length sizes ≡ face_limit

-- an accepted mesh by its counts, and with its corners and sizes at the front of two lists; its entries are not kept
pub record Kept (m : Mesh) (r : MeshRead) (corners sizes : List ℕ) : Type 0 where
  pub accepted : mesh_number m ≡ 0
  pub positions : r.positions ≡ position_count m
  pub textures : r.textures ≡ texture_count m
  pub normals : r.normals ≡ normal_count m
  pub corner_front : Front corners m.corners (width * r.corners)
  pub size_front : Front sizes m.sizes r.faces

-- a number and, where that is 0, a mesh after cleaning
pub record Left (number : ℕ) (m : Mesh) (r : MeshRead) (corners sizes : List ℕ) : Type 0 where
  pub number_is : r.number ≡ number
  pub kept : r.number ≡ 0 → Kept (cleaned m) r corners sizes

-- those of a file
abbrev pub Cleaned : List ℕ → MeshRead → List ℕ → List ℕ → Type 0
Cleaned file r corners sizes = Left (reading_number [] file) (panel_mesh file) r corners sizes
