-- What the functions hand to one another, and no rules of document 02: the numbers that are left to give, and the sheet by them. Assumes
-- nothing.
use Rattle.std.specs.Prelude.{ℕ, ◌*◌, ◌≤◌, ◌≡◌, List, [], ◌∷◌, length, ℤ}
use Rattle.lists.specs.Putting.{Front}
use Rattle.mesh.specs.Limits.{point_width, width, face_limit, corner_numbers}
use Rattle.mesh.specs.Mesh.{Mesh, Ring, faces, position_count}
use Rattle.mesh.specs.Table.{when, first_of, mesh_number}
use Rattle.edges.specs.Runs.{Edged}
use Rattle.columns.specs.Columns.{Keyable}
use Rattle.reading.specs.declared.MeshRead.{MeshRead}
use Rattle.reading.specs.Reading.{reading_number, panel_mesh}
use Rattle.hemtext.specs.HemText.{printed, hem_room}
use Rattle.hemtext.specs.Working.{reach_rows}
use Rattle.hemfile.specs.HemFile.{coordinates_of, triple_width, astray_triples}

-- what is left to give of a mesh with n positions that is accepted: 18, then 19 and 10
abbrev pub triple_rows : ℕ → List ℕ → List Ring → List ℕ
triple_rows n bytes fs = when (astray_triples n bytes) 18 ∷ reach_rows (coordinates_of bytes) fs

-- and of a panel file, which comes first, and triples
abbrev pub panel_rows : List ℕ → List ℕ → List ℕ
panel_rows panel bytes = reading_number [] panel ∷ triple_rows (position_count (panel_mesh panel)) bytes (faces (panel_mesh panel))

-- the sheet by them
unfoldable pub mesh_sheet : ℕ → List ℕ → List Ring → List ℕ
mesh_sheet n bytes fs = printed (first_of (triple_rows n bytes fs)) (coordinates_of bytes) fs

unfoldable pub panel_sheet : List ℕ → List ℕ → List ℕ
panel_sheet panel bytes = printed (first_of (panel_rows panel bytes)) (coordinates_of bytes) (faces (panel_mesh panel))

-- an accepted mesh with n positions, and room for every sheet
pub record Printable (corners sizes : List ℕ) (n : ℕ) (out : List ℕ) : Type 0 where
  pub edged : Edged corners sizes n
  pub keyable : Keyable corners sizes
  pub room : hem_room ≤ length out

-- the same, twelve bytes for each position, and a row for as many coordinates
pub record Placeable (corners sizes : List ℕ) (n : ℕ) (bytes : List ℕ) (coordinates : List ℤ) (out : List ℕ) : Type 0 where
  pub printable : Printable corners sizes n out
  pub whole : length bytes ≡ triple_width * n
  pub long : length coordinates ≡ point_width * n

-- lists at the full limits for the corners and sizes of faces
pub record FaceRoom (corners sizes : List ℕ) : Type 0 where
  pub corners_long : length corners ≡ corner_numbers
  pub sizes_long : length sizes ≡ face_limit

-- an accepted mesh by its count of positions, and with its corners and sizes at the front of two lists; its entries are not kept
pub record Kept (m : Mesh) (r : MeshRead) (corners sizes : List ℕ) : Type 0 where
  pub accepted : mesh_number m ≡ 0
  pub positions : r.positions ≡ position_count m
  pub corner_front : Front corners m.corners (width * r.corners)
  pub size_front : Front sizes m.sizes r.faces

-- the number of a panel file and, where that is 0, its mesh
pub record Read (panel : List ℕ) (r : MeshRead) (corners sizes : List ℕ) : Type 0 where
  pub number_is : r.number ≡ reading_number [] panel
  pub kept : r.number ≡ 0 → Kept (panel_mesh panel) r corners sizes
