-- The mesh: its five lists, its corners and its faces, as document 01, 'The mesh', has them. Assumes nothing.
use Rattle.std.specs.Prelude.{ℕ, zero, suc, ◌+◌, ◌*◌, ◌/◌, List, [], ◌∷◌, length, take, drop, slice_index, Float}
use Rattle.mesh.specs.Limits.{point_width, texel_width, width, largest}

-- positions, texture points and normals as flat lists of coordinates; one flat list of corners, one list of face sizes
pub record Mesh : Type 0 where
  pub positions : List Float
  pub textures : List Float
  pub normals : List Float
  pub corners : List ℕ
  pub sizes : List ℕ

abbrev pub mesh_of : List Float → List Float → List Float → List ℕ → List ℕ → Mesh
mesh_of p t n c s = record { positions = p; textures = t; normals = n; corners = c; sizes = s }

-- a texture or normal index that means missing
abbrev pub missing : ℕ
missing = largest

-- a corner is its numbers: position, texture, normal, mark
abbrev pub Corner : Type 0
Corner = List ℕ

abbrev pub position : Corner → ℕ
position c = slice_index c 0

abbrev pub texture : Corner → ℕ
texture c = slice_index c 1

abbrev pub normal : Corner → ℕ
normal c = slice_index c 2

-- the seam mark of a corner, 0 for none (document 02, CR 11): no rule tests it, and it moves with its corner
abbrev pub mark : Corner → ℕ
mark c = slice_index c 3

-- a ring is the corners of one face, in their order
abbrev pub Ring : Type 0
Ring = List Corner

-- corner k of a flat list
abbrev pub corner_at : List ℕ → ℕ → Corner
corner_at cs k = slice_index cs (width * k) ∷ slice_index cs (width * k + 1) ∷ slice_index cs (width * k + 2) ∷ slice_index cs (width * k + 3) ∷ []

-- the first n corners of a flat list, and all that are whole
abbrev pub first_corners : ℕ → List ℕ → Ring
first_corners zero cs = []
first_corners (suc n) cs = take width cs ∷ first_corners n (drop width cs)

abbrev pub corners_in : List ℕ → Ring
corners_in cs = first_corners (length cs / width) cs

-- the faces of a flat list of corners: each takes as many corners as its size says
abbrev pub rings : List ℕ → List ℕ → List Ring
rings [] cs = []
rings (n ∷ s) cs = corners_in (take (width * n) cs) ∷ rings s (drop (width * n) cs)

-- the faces of a mesh; face k is the one at place k
unfoldable pub faces : Mesh → List Ring
faces m = rings m.sizes m.corners

-- how many positions, texture points and normals there are
abbrev pub position_count : Mesh → ℕ
position_count m = length m.positions / point_width

abbrev pub texture_count : Mesh → ℕ
texture_count m = length m.textures / texel_width

abbrev pub normal_count : Mesh → ℕ
normal_count m = length m.normals / point_width
