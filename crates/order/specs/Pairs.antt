-- Pairs of small meshes, by positions only: what the relation holds of and what not, and what the conditions are for.
-- Assumes nothing.
use Rattle.std.specs.Prelude.{false, List, [], ◌∷◌, ◌++◌, map, ℕ, ◌*◌, length, replicate, Float, pos}
use Rattle.std.specs.Float.{fin}
use Rattle.lists.specs.Lists.{each}
use Rattle.mesh.specs.Limits.{point_width}
use Rattle.mesh.specs.Mesh.{Mesh, Corner, mesh_of, missing}

-- a corner by its position: texture and normal are missing, and it has no mark
abbrev pub bare : ℕ → Corner
bare p = p ∷ missing ∷ missing ∷ 0 ∷ []

-- and one by its position and its normal
abbrev pub facing : ℕ → ℕ → Corner
facing k p = p ∷ missing ∷ k ∷ 0 ∷ []

-- n points, which all are the origin
abbrev pub origins : ℕ → List Float
origins n = replicate (point_width * n) (fin false 0 (pos 0))

-- the mesh of these faces over n positions
abbrev pub plain : ℕ → List (List ℕ) → Mesh
plain n fs = mesh_of (origins n) [] [] (each (each bare) fs) (map length fs)

abbrev pub triangle : ℕ → ℕ → ℕ → List ℕ
triangle a b c = a ∷ b ∷ c ∷ []

-- two triangles; the same two, the other first, and each begun elsewhere; the same two, the first turned over
abbrev pub cloth : Mesh
cloth = plain 4 (triangle 0 1 2 ∷ triangle 1 0 3 ∷ [])

abbrev pub recut : Mesh
recut = plain 4 (triangle 0 3 1 ∷ triangle 2 0 1 ∷ [])

abbrev pub turned_over : Mesh
turned_over = plain 4 (triangle 0 2 1 ∷ triangle 1 0 3 ∷ [])

-- example 4: an edge used three times; the last two faces exchanged
abbrev pub thrice_used : Mesh
thrice_used = plain 5 (triangle 0 1 2 ∷ triangle 1 0 3 ∷ triangle 0 1 4 ∷ [])

abbrev pub exchanged : Mesh
exchanged = plain 5 (triangle 0 1 2 ∷ triangle 0 1 4 ∷ triangle 1 0 3 ∷ [])

-- two faces with no corners, which no mesh may have
abbrev pub empties : Mesh
empties = plain 0 ([] ∷ [] ∷ [])

-- two triangles at one edge, with a normal for each, j and k; once the same, once another for the second
abbrev pub two_normals : ℕ → ℕ → Mesh
two_normals j k =
    mesh_of (origins 4) [] (origins 2) (each (facing j) (triangle 0 1 2) ++ each (facing k) (triangle 1 0 3)) (3 ∷ 3 ∷ [])

abbrev pub smooth : Mesh
smooth = two_normals 0 0

abbrev pub creased : Mesh
creased = two_normals 0 1
