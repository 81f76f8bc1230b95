-- The examples to prove of document 01, and that of document 02's request 5, each as a test that computes, and the list of them. Assumes
-- nothing.
use Rattle.std.specs.Prelude.{ℕ, Bool, false, not, ◌&&◌, List, [], ◌∷◌, map, length, eqb, pos, negsuc, Float}
use Rattle.std.specs.Float.{fin, binary64}
use Rattle.std.specs.Float.Ieee.{of_bits, to_bits}
use Rattle.lists.specs.Lists.{some, every, span}
use Rattle.lists.specs.Same.{same_numbers, same_lists}
use Rattle.mesh.specs.Mesh.{Mesh, mesh_of, Ring, missing, position, texture, corners_in}
use Rattle.mesh.specs.Table.{mesh_number}
use Rattle.edges.specs.Edges.{Edge, same, edges_of, Verdict, Irregular, Regular, Oriented, Closed, verdict, hems}
use Rattle.ported.specs.Ported.{ported_wires}
use Rattle.turning.specs.Turning.{house_wires_of}
use Rattle.panels.specs.Panels.{panels}
use Rattle.removal.specs.Examples.{leaves, corner}
use Rattle.unused.specs.Compaction.{compacted}
use Rattle.merging.specs.Merging.{merge_number, texture_pairs, merged_corners}

-- ---- edges, verdict, wires and panels

-- faces by positions only
abbrev pub face : List ℕ → Ring
face ps = map (λ p. p ∷ missing ∷ missing ∷ 0 ∷ []) ps

abbrev pub faces_by : List (List ℕ) → List Ring
faces_by fs = map face fs

abbrev pub tri : ℕ → ℕ → ℕ → List ℕ
tri a b c = a ∷ b ∷ c ∷ []

abbrev pub verdict_number : Verdict → ℕ
verdict_number Irregular = 0
verdict_number Regular = 1
verdict_number Oriented = 2
verdict_number Closed = 3

-- what an example of faces says
unfoldable pub has_verdict : List (List ℕ) → Verdict → Bool
has_verdict fs v = eqb (verdict_number (verdict (edges_of (faces_by fs)))) (verdict_number v)

unfoldable pub has_hem : List (List ℕ) → Edge → Bool
has_hem fs e = some (same e) (hems (edges_of (faces_by fs)))

unfoldable pub has_ported : List (List ℕ) → List (List ℕ) → Bool
has_ported fs ws = same_lists (ported_wires (hems (edges_of (faces_by fs)))) ws

unfoldable pub has_house : List (List ℕ) → List (List ℕ) → Bool
has_house fs ws = same_lists (house_wires_of (faces_by fs)) ws

unfoldable pub has_panels : List (List ℕ) → List (List ℕ) → Bool
has_panels fs ps = same_lists (panels false (faces_by fs)) ps

-- 1: no faces: Closed, no wires, no panels
abbrev pub example1 : Bool
example1 = has_verdict [] Closed && has_ported [] [] && has_house [] [] && has_panels [] []

-- 2: (0,1,2): Oriented, wire 0 1 2
abbrev pub triangle : List (List ℕ)
triangle = tri 0 1 2 ∷ []

abbrev pub example2 : Bool
example2 = has_verdict triangle Oriented && has_ported triangle (tri 0 1 2 ∷ []) && has_house triangle (tri 0 1 2 ∷ [])

-- 3: (0,1,2),(0,1,3): Regular
abbrev pub example3 : Bool
example3 = has_verdict (tri 0 1 2 ∷ tri 0 1 3 ∷ []) Regular

-- 4: (0,1,2),(1,0,3),(0,1,4): Irregular, with 0 to 1 among its hem edges. With the last two exchanged: Irregular, with 1 to 0 there
-- instead
abbrev pub three_faces : List (List ℕ)
three_faces = tri 0 1 2 ∷ tri 1 0 3 ∷ tri 0 1 4 ∷ []

abbrev pub exchanged : List (List ℕ)
exchanged = tri 0 1 2 ∷ tri 0 1 4 ∷ tri 1 0 3 ∷ []

abbrev pub example4 : Bool
example4 =
    has_verdict three_faces Irregular
    && has_hem three_faces (0, 1)
    && not (has_hem three_faces (1, 0))
    && has_verdict exchanged Irregular
    && has_hem exchanged (1, 0)
    && not (has_hem exchanged (0, 1))

-- ---- folded faces: `corner p k` is corner k of the face, from 0, with the position p

-- 5: quadrangle (0,1,1,2): triangle (0,1,2), its middle corner the third
abbrev pub example5 : Bool
example5 =
    leaves
    (corner 0 0 ∷ corner 1 1 ∷ corner 1 2 ∷ corner 2 3 ∷ [])
    ((corner 0 0 ∷ corner 1 2 ∷ corner 2 3 ∷ []) ∷ [])

-- 6: quadrangle (0,1,0,2): goes
abbrev pub example6 : Bool
example6 = leaves (corner 0 0 ∷ corner 1 1 ∷ corner 0 2 ∷ corner 2 3 ∷ []) []

-- 7: (0,1,2,1,3): (1,3,0), its first corner the fourth
abbrev pub example7 : Bool
example7 =
    leaves
    (corner 0 0 ∷ corner 1 1 ∷ corner 2 2 ∷ corner 1 3 ∷ corner 3 4 ∷ [])
    ((corner 1 3 ∷ corner 3 4 ∷ corner 0 0 ∷ []) ∷ [])

-- 8: (0,1,2,0,3,4): (0,1,2),(0,3,4)
abbrev pub example8 : Bool
example8 =
    leaves
    (corner 0 0 ∷ corner 1 1 ∷ corner 2 2 ∷ corner 0 3 ∷ corner 3 4 ∷ corner 4 5 ∷ [])
    ((corner 0 0 ∷ corner 1 1 ∷ corner 2 2 ∷ []) ∷ (corner 0 3 ∷ corner 3 4 ∷ corner 4 5 ∷ []) ∷ [])

-- ---- compaction

-- six positions, and the face (5,2,4) with no texture points and no normals; the coordinates have the bits 0, 1, .., 17
unfoldable pub six_positions : Mesh
six_positions =
    mesh_of
    (map (of_bits binary64) (span 0 18))
    []
    []
    (5 ∷ missing ∷ missing ∷ 0 ∷ 2 ∷ missing ∷ missing ∷ 0 ∷ 4 ∷ missing ∷ missing ∷ 0 ∷ [])
    (3 ∷ [])

-- a mesh is accepted, the positions of its corners become these, and the new list has coordinates with these bits
unfoldable pub compacts : Mesh → List ℕ → List ℕ → Bool
compacts m places bits =
    eqb (mesh_number m) 0
    && same_numbers (map position (corners_in (compacted m).corners)) places
    && same_numbers (map (to_bits binary64) (compacted m).positions) bits

-- 9: six positions, face (5,2,4): (0,1,2); new list is old 5, 2, 4
abbrev pub example9 : Bool
example9 = compacts six_positions (0 ∷ 1 ∷ 2 ∷ []) (15 ∷ 16 ∷ 17 ∷ 6 ∷ 7 ∷ 8 ∷ 12 ∷ 13 ∷ 14 ∷ [])

-- ---- merging

-- the numbers 0, 0.5, 0.625 and 1
abbrev pub nought : Float
nought = fin false 0 (pos 0)

abbrev pub half : Float
half = fin false 1 (negsuc 0)

abbrev pub five_eighths : Float
five_eighths = fin false 5 (negsuc 2)

abbrev pub one : Float
one = fin false 1 (pos 0)

-- texture points (0,0),(0.5,0),(1,0), and a face whose corners have them in this order
unfoldable pub three_textures : Mesh
three_textures =
    mesh_of
    (nought ∷ nought ∷ nought ∷ [])
    (nought ∷ nought ∷ half ∷ nought ∷ one ∷ nought ∷ [])
    []
    (0 ∷ 0 ∷ missing ∷ 0 ∷ 0 ∷ 1 ∷ missing ∷ 0 ∷ 0 ∷ 2 ∷ missing ∷ 0 ∷ [])
    (3 ∷ [])

-- a mesh is accepted at a tolerance, so many pairs of texture points are compared, and the texture indices of its corners become
-- these
unfoldable pub merges : Mesh → Float → ℕ → List ℕ → Bool
merges m t pairs textures =
    eqb (merge_number m t (length m.corners)) 0
    && eqb (texture_pairs m t) pairs
    && same_numbers (map texture (corners_in (merged_corners m t))) textures

-- 10: texture points (0,0),(0.5,0),(1,0), tolerance 0.5: three pairs compared, nothing merges
abbrev pub example10 : Bool
example10 = merges three_textures half 3 (0 ∷ 1 ∷ 2 ∷ [])

-- 11: the same with 0.625: three compared, all become index 1
abbrev pub example11 : Bool
example11 = merges three_textures five_eighths 3 (1 ∷ 1 ∷ 1 ∷ [])

-- ---- ported wires

-- 12: (0,1,4),(1,2,3): ported wires 0 1 4 and 2 3 1
abbrev pub touching : List (List ℕ)
touching = tri 0 1 4 ∷ tri 1 2 3 ∷ []

abbrev pub example12 : Bool
example12 = has_ported touching (tri 0 1 4 ∷ tri 2 3 1 ∷ [])

-- ---- house wires

-- request 5: the same faces: house wires 0 1 4 and 1 2 3
abbrev pub example_of5 : Bool
example_of5 = has_house touching (tri 0 1 4 ∷ tri 1 2 3 ∷ [])

-- ---- all of them

abbrev pub examples : List Bool
examples =
    example1
    ∷ example2
    ∷ example3
    ∷ example4
    ∷ example5
    ∷ example6
    ∷ example7
    ∷ example8
    ∷ example9
    ∷ example10
    ∷ example11
    ∷ example12
    ∷ example_of5
    ∷ []

-- they hold
unfoldable pub all_hold : Bool
all_hold = every (λ b. b) examples
