-- Examples 5 and 8 of document 01 with marks, after cleaning; and two meshes that differ in marks alone. By positions and marks: texture points
-- and normals are missing. Proved in proofs/, by computation. Assumes nothing.
use Rattle.std.specs.Prelude.{◌≡◌, [], ◌∷◌, map, ℕ, length}
use Rattle.lists.specs.Lists.{joined}
use Rattle.mesh.specs.Mesh.{Mesh, mesh_of, Corner, Ring, missing, mark, faces}
use Rattle.mesh.specs.Table.{mesh_number}
use Rattle.cleaning.specs.Cleaning.{cleaned}
use Rattle.order.specs.Same.{Same}
use Rattle.order.specs.Pairs.{origins, recut}
use Rattle.marks.specs.Marks.{unmarked}
use Rattle.marks.specs.Order.{AgreeButForMarks}

-- a corner by its position and its mark; and the mesh of one ring over n positions
abbrev pub marked : ℕ → ℕ → Corner
marked p k = p ∷ missing ∷ missing ∷ k ∷ []

abbrev pub one_face : ℕ → Ring → Mesh
one_face n r = mesh_of (origins n) [] [] (joined r) (length r ∷ [])

-- the quadrangle (0,1,1,2) becomes (q0,q2,q3): its middle corner is the third, and has the third's mark
abbrev pub quadrangle : Mesh
quadrangle = one_face 3 (marked 0 11 ∷ marked 1 12 ∷ marked 1 13 ∷ marked 2 14 ∷ [])

-- the ring (0,1,2,0,3,4) becomes (0,1,2) and (0,3,4): the second ring has corner j, with its own mark
abbrev pub ring : Mesh
ring = one_face 5 (marked 0 11 ∷ marked 1 12 ∷ marked 2 13 ∷ marked 0 14 ∷ marked 3 15 ∷ marked 4 16 ∷ [])

pub record MarksAfterCleaning : Type 0 where
  pub of_quadrangle : map (map mark) (faces (cleaned quadrangle)) ≡ (11 ∷ 13 ∷ 14 ∷ []) ∷ []
  pub of_ring : map (map mark) (faces (cleaned ring)) ≡ (11 ∷ 12 ∷ 13 ∷ []) ∷ (14 ∷ 15 ∷ 16 ∷ []) ∷ []

-- the two triangles (0,1,2) and (1,0,3), the first with a dart at 2: `recut` has them without it, the other first, and each begun elsewhere
abbrev pub darted : Mesh
darted =
    mesh_of (origins 4) [] []
    (joined (marked 0 0 ∷ marked 1 0 ∷ marked 2 1 ∷ marked 1 0 ∷ marked 0 0 ∷ marked 3 0 ∷ []))
    (3 ∷ 3 ∷ [])

pub record DartDoesNotMatter : Type 0 where
  pub both_accepted : (mesh_number darted ≡ 0) × (mesh_number recut ≡ 0)
  -- they have not the same faces, and have them without marks
  pub not_the_same : Same (faces darted) (faces recut) → ⊥
  pub the_same_unmarked : Same (faces (unmarked darted)) (faces (unmarked recut))
  pub agree : AgreeButForMarks darted recut
