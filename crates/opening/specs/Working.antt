-- What the functions of the crate hand to one another; a caller needs none of it. Assumes nothing.
use Rattle.std.specs.Prelude.{ℕ, ◌*◌, ◌≤◌, ◌≡◌, List, length, take}
use Rattle.lists.specs.Putting.{Front}
use Rattle.mesh.specs.Limits.{point_width, texel_width, entry_limit, face_limit, corner_numbers}
use Rattle.mesh.specs.Mesh.{Mesh, mesh_of}
use Rattle.mesh.specs.Table.{mesh_number}
use Rattle.reading.specs.declared.MeshRead.{MeshRead}
use Rattle.opening.specs.Opening.{Standing}

-- the same, with lists for what is left of its faces
pub record FaceRoom (l : Mesh) (d : MeshRead) (unfolded newsizes tags : List ℕ) : Type 0 where
  pub standing : Standing l d
  pub corners : length unfolded ≡ corner_numbers
  pub sizes : length newsizes ≡ face_limit
  pub origins : length tags ≡ face_limit

-- the mesh whose entries are at the front of their lists, and whose corners and sizes are all of theirs
abbrev pub unfolded_front : Mesh → MeshRead → Mesh
unfolded_front l d =
    mesh_of
    (take (point_width * d.positions) l.positions)
    (take (texel_width * d.textures) l.textures)
    (take (point_width * d.normals) l.normals)
    l.corners
    l.sizes

-- it is accepted, it stands there, and there is room for the new numbers of each list's entries
pub record Unfolded (l : Mesh) (d : MeshRead) (numbers : List ℕ) : Type 0 where
  pub accepted : mesh_number (unfolded_front l d) ≡ 0
  pub position_front : Front l.positions (take (point_width * d.positions) l.positions) (point_width * d.positions)
  pub texture_front : Front l.textures (take (texel_width * d.textures) l.textures) (texel_width * d.textures)
  pub normal_front : Front l.normals (take (point_width * d.normals) l.normals) (point_width * d.normals)
  pub room : entry_limit ≤ length numbers
