-- A panel file opened and cleaned: it is read, folded faces are removed, and what no face uses goes (document 01, 'The panel file and the
-- sheet'). What is left stands at the front of five lent lists. Assumes nothing.
use Rattle.std.specs.Prelude.{ℕ, ◌*◌, ◌≡◌, List, [], length, take}
use Rattle.lists.specs.Putting.{Front}
use Rattle.mesh.specs.Limits.{point_width, texel_width, width, face_limit, point_numbers, texel_numbers, corner_numbers}
use Rattle.mesh.specs.Mesh.{Mesh, mesh_of}
use Rattle.mesh.specs.Table.{mesh_number}
use Rattle.reading.specs.declared.MeshRead.{MeshRead}
use Rattle.reading.specs.Reading.{reading_number, panel_mesh}
use Rattle.reading.specs.Answer.{refused_with}
use Rattle.cleaning.specs.Cleaning.{cleaned}

-- five lists at the full limits
pub record FullRoom (l : Mesh) : Type 0 where
  pub positions : length l.positions ≡ point_numbers
  pub textures : length l.textures ≡ texel_numbers
  pub normals : length l.normals ≡ point_numbers
  pub corners : length l.corners ≡ corner_numbers
  pub sizes : length l.sizes ≡ face_limit

-- the mesh at the front of five lists, by counts
abbrev pub front_of : Mesh → MeshRead → Mesh
front_of l d =
    mesh_of
    (take (point_width * d.positions) l.positions)
    (take (texel_width * d.textures) l.textures)
    (take (point_width * d.normals) l.normals)
    (take (width * d.corners) l.corners)
    (take d.faces l.sizes)

-- the mesh m stands there
pub record Fronts (m l : Mesh) (r : MeshRead) : Type 0 where
  pub positions : Front l.positions m.positions (point_width * r.positions)
  pub textures : Front l.textures m.textures (texel_width * r.textures)
  pub normals : Front l.normals m.normals (point_width * r.normals)
  pub corners : Front l.corners m.corners (width * r.corners)
  pub sizes : Front l.sizes m.sizes r.faces

-- the mesh at the front of five lists is accepted, and the lists are at the full limits
pub record Standing (l : Mesh) (d : MeshRead) : Type 0 where
  pub room : FullRoom l
  pub accepted : mesh_number (front_of l d) ≡ 0
  pub fronts : Fronts (front_of l d) l d

-- the mesh m is left at the front of the lists
pub record Kept (m l : Mesh) (r : MeshRead) : Type 0 where
  pub number : r.number ≡ 0
  pub fronts : Fronts m l r

-- what the call answers, and what the lent lists hold after it: on 0 the mesh that is left of the file, at their front by the counts; on
-- any other number, which is the reader's, each count is 0, and nothing is said of the lists, which are the product's own
pub record Opened (file : List ℕ) (afterwards : Mesh) (answer : MeshRead) : Type 0 where
  pub number : answer.number ≡ reading_number [] file
  pub left : answer.number ≡ 0 → Fronts (cleaned (panel_mesh file)) afterwards answer
  pub counts : (answer.number ≡ 0 → ⊥) → answer ≡ refused_with answer.number
