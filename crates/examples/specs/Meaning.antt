-- What the tests of the examples say, and what the examples say of the rules, value by value: equations with the rules' own
-- results. So no test can pass over a value, and no example over a part of it. Assumes nothing.
use Rattle.std.specs.Prelude.{ℕ, ◌≡◌, false, List, [], ◌∷◌, ◌++◌, map, length, pos, negsuc, Float}
use Rattle.std.specs.Float.{fin, binary64}
use Rattle.std.specs.Float.Ieee.{of_bits, to_bits}
use Rattle.lists.specs.Lists.{span}
use Rattle.lists.specs.Same.{Tells}
use Rattle.mesh.specs.Mesh.{Mesh, Ring, position, texture, corners_in}
use Rattle.mesh.specs.Table.{mesh_number}
use Rattle.edges.specs.Edges.{Edge, edges_of, Verdict, Irregular, Regular, Oriented, Closed, verdict, hems}
use Rattle.ported.specs.Ported.{ported_wires}
use Rattle.turning.specs.Turning.{house_wires_of}
use Rattle.panels.specs.Panels.{panels}
use Rattle.removal.specs.Folded.{removed}
use Rattle.removal.specs.Examples.{LeavesIs, corner}
use Rattle.unused.specs.Compaction.{compacted}
use Rattle.merging.specs.Merging.{merge_number, texture_pairs, merged_corners}
use Rattle.examples.specs.Twelve as test
use Rattle.examples.specs.Twelve.{faces_by, tri, six_positions, three_textures}

-- ---- of faces by positions

-- the verdict, the wires and the panels that the rules give
abbrev pub Verdicts : List (List ℕ) → Verdict → Type 0
Verdicts fs v = verdict (edges_of (faces_by fs)) ≡ v

abbrev pub Ported : List (List ℕ) → List (List ℕ) → Type 0
Ported fs ws = ported_wires (hems (edges_of (faces_by fs))) ≡ ws

abbrev pub House : List (List ℕ) → List (List ℕ) → Type 0
House fs ws = house_wires_of (faces_by fs) ≡ ws

abbrev pub Panels : List (List ℕ) → List (List ℕ) → Type 0
Panels fs ps = panels false (faces_by fs) ≡ ps

-- the hem edges have e somewhere
abbrev pub Hem : List (List ℕ) → Edge → Type 0
Hem fs e = (before : List Edge) × (after : List Edge) × (hems (edges_of (faces_by fs)) ≡ before ++ (e ∷ after))

-- ---- of one face, of a mesh

-- what removal leaves of a face
abbrev pub Leaves : Ring → List Ring → Type 0
Leaves f fs = removed (f ∷ []) ≡ fs

-- accepted; the new positions of the corners; the bits of the new list
pub record Compacts (m : Mesh) (places bits : List ℕ) : Type 0 where
  pub accepted : mesh_number m ≡ 0
  pub places_are : map position (corners_in (compacted m).corners) ≡ places
  pub bits_are : map (to_bits binary64) (compacted m).positions ≡ bits

-- accepted at a tolerance; the pairs of texture points compared; the new texture indices of the corners
pub record Merges (m : Mesh) (t : Float) (pairs : ℕ) (textures : List ℕ) : Type 0 where
  pub accepted : merge_number m t (length m.corners) ≡ 0
  pub pairs_are : texture_pairs m t ≡ pairs
  pub textures_are : map texture (corners_in (merged_corners m t)) ≡ textures

-- each test says just that
pub record TestsTell : Type 0 where
  pub verdict_told : (fs : List (List ℕ)) (v : Verdict) → Tells (test.has_verdict fs v) (Verdicts fs v)
  pub hem_told : (fs : List (List ℕ)) (e : Edge) → Tells (test.has_hem fs e) (Hem fs e)
  pub ported_told : (fs ws : List (List ℕ)) → Tells (test.has_ported fs ws) (Ported fs ws)
  pub house_told : (fs ws : List (List ℕ)) → Tells (test.has_house fs ws) (House fs ws)
  pub panels_told : (fs ps : List (List ℕ)) → Tells (test.has_panels fs ps) (Panels fs ps)
  pub leaves_told : LeavesIs
  pub compacts_told : (m : Mesh) (places bits : List ℕ) → Tells (test.compacts m places bits) (Compacts m places bits)
  pub merges_told :
      (m : Mesh) (t : Float) (pairs : ℕ) (textures : List ℕ) → Tells (test.merges m t pairs textures) (Merges m t pairs textures)

-- ---- the twelve, in the words of document 01, and that of document 02's request 5

pub record TwelveHold : Type 0 where
  pub no_faces : Verdicts [] Closed × Ported [] [] × House [] [] × Panels [] []
  pub one_triangle : Verdicts (tri 0 1 2 ∷ []) Oriented × Ported (tri 0 1 2 ∷ []) (tri 0 1 2 ∷ []) × House (tri 0 1 2 ∷ []) (tri 0 1 2 ∷ [])
  pub one_direction : Verdicts (tri 0 1 2 ∷ tri 0 1 3 ∷ []) Regular
  pub three_uses :
      Verdicts (tri 0 1 2 ∷ tri 1 0 3 ∷ tri 0 1 4 ∷ []) Irregular
      × Hem (tri 0 1 2 ∷ tri 1 0 3 ∷ tri 0 1 4 ∷ []) (0, 1)
      × (Hem (tri 0 1 2 ∷ tri 1 0 3 ∷ tri 0 1 4 ∷ []) (1, 0) → ⊥)
  pub two_exchanged :
      Verdicts (tri 0 1 2 ∷ tri 0 1 4 ∷ tri 1 0 3 ∷ []) Irregular
      × Hem (tri 0 1 2 ∷ tri 0 1 4 ∷ tri 1 0 3 ∷ []) (1, 0)
      × (Hem (tri 0 1 2 ∷ tri 0 1 4 ∷ tri 1 0 3 ∷ []) (0, 1) → ⊥)
  pub beside : Leaves (corner 0 0 ∷ corner 1 1 ∷ corner 1 2 ∷ corner 2 3 ∷ []) ((corner 0 0 ∷ corner 1 2 ∷ corner 2 3 ∷ []) ∷ [])
  pub across : Leaves (corner 0 0 ∷ corner 1 1 ∷ corner 0 2 ∷ corner 2 3 ∷ []) []
  pub of_five :
      Leaves
      (corner 0 0 ∷ corner 1 1 ∷ corner 2 2 ∷ corner 1 3 ∷ corner 3 4 ∷ [])
      ((corner 1 3 ∷ corner 3 4 ∷ corner 0 0 ∷ []) ∷ [])
  pub of_six :
      Leaves
      (corner 0 0 ∷ corner 1 1 ∷ corner 2 2 ∷ corner 0 3 ∷ corner 3 4 ∷ corner 4 5 ∷ [])
      ((corner 0 0 ∷ corner 1 1 ∷ corner 2 2 ∷ []) ∷ (corner 0 3 ∷ corner 3 4 ∷ corner 4 5 ∷ []) ∷ [])
  -- six positions, whose coordinates have the bits 0, 1, .., 17, and the face (5,2,4)
  pub six_positions_is :
      (six_positions.positions ≡ map (of_bits binary64) (span 0 18))
      × (map position (corners_in six_positions.corners) ≡ 5 ∷ 2 ∷ 4 ∷ [])
  pub by_first_use : Compacts six_positions (0 ∷ 1 ∷ 2 ∷ []) (15 ∷ 16 ∷ 17 ∷ 6 ∷ 7 ∷ 8 ∷ 12 ∷ 13 ∷ 14 ∷ [])
  -- texture points (0,0),(0.5,0),(1,0), of corners in this order: a number is m·2^e, so 0.5 is 1·2^-1 and 0.625 is 5·2^-3
  pub three_textures_is :
      (three_textures.textures
      ≡ fin false 0 (pos 0) ∷ fin false 0 (pos 0) ∷ fin false 1 (negsuc 0) ∷ fin false 0 (pos 0) ∷ fin false 1 (pos 0) ∷ fin false 0 (pos 0) ∷ [])
      × (map texture (corners_in three_textures.corners) ≡ 0 ∷ 1 ∷ 2 ∷ [])
  pub nothing_merges : Merges three_textures (fin false 1 (negsuc 0)) 3 (0 ∷ 1 ∷ 2 ∷ [])
  pub all_merge : Merges three_textures (fin false 5 (negsuc 2)) 3 (1 ∷ 1 ∷ 1 ∷ [])
  pub ported_wires_is : Ported (tri 0 1 4 ∷ tri 1 2 3 ∷ []) (tri 0 1 4 ∷ tri 2 3 1 ∷ [])
  pub hems_apart : House (tri 0 1 4 ∷ tri 1 2 3 ∷ []) (tri 0 1 4 ∷ tri 1 2 3 ∷ [])
