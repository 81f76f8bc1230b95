-- Small covers and their lists of hems, each shown by computation, and what the conditions are for. Assumes nothing.
use Rattle.std.specs.Prelude.{◌≡◌, true, false, List, [], ◌∷◌, ℕ, zero, suc, ◌*◌, get_or, ℤ, pos, negsuc}
use Rattle.lists.specs.Lists.{has}
use Rattle.mesh.specs.Mesh.{Mesh, faces}
use Rattle.mesh.specs.Table.{mesh_number}
use Rattle.edges.specs.Edges.{Oriented, edges_of, verdict}
use Rattle.turning.specs.Turning.{house_wires_of}
use Rattle.panels.specs.Panels.{panels}
use Rattle.onepanel.specs.Promise.{Along, Owns}
use Rattle.roots.specs.Distances.{Point, Reached}
use Rattle.hemlist.specs.HemList.{point_of, edge_length, hem_length, hem_panels, hem_edges, hem_lengths}
use Rattle.order.specs.Same.{Same}
use Rattle.order.specs.Pairs.{plain, triangle, creased}
use Rattle.hemlaws.specs.Promises.{longest_edge}

-- ---- two openings that touch

-- two faces that touch at position 1, and the same two, the other first
abbrev pub touching : Mesh
touching = plain 5 (triangle 0 1 4 ∷ triangle 1 2 3 ∷ [])

abbrev pub other_first : Mesh
other_first = plain 5 (triangle 1 2 3 ∷ triangle 0 1 4 ∷ [])

-- where their positions lie
abbrev pub places : List ℤ
places =
    pos 0 ∷ pos 0 ∷ pos 0
    ∷ pos 3 ∷ pos 0 ∷ pos 0
    ∷ pos 3 ∷ negsuc 0 ∷ pos 0
    ∷ pos 3 ∷ pos 0 ∷ pos 2
    ∷ pos 0 ∷ pos 4 ∷ pos 0
    ∷ []

pub record TwoHems : Type 0 where
  pub both_accepted : (mesh_number touching ≡ 0) × (mesh_number other_first ≡ 0)
  pub same_faces : Same (faces touching) (faces other_first)
  pub hems : house_wires_of (faces touching) ≡ triangle 0 1 4 ∷ triangle 1 2 3 ∷ []
  pub edges : hem_edges (faces touching) ≡ 3 ∷ 3 ∷ []
  -- 3 and 5 and 4; 1 and 2 and 2, where the second is the root of 5, cut
  pub lengths : hem_lengths (point_of places) (faces touching) ≡ 12 ∷ 5 ∷ []
  -- with the other face first the panels have other numbers, and nothing else of the list is another
  pub in_panels : hem_panels (faces touching) ≡ 0 ∷ 1 ∷ []
  pub in_panels_then : hem_panels (faces other_first) ≡ 1 ∷ 0 ∷ []
  pub edges_then : hem_edges (faces other_first) ≡ 3 ∷ 3 ∷ []
  pub lengths_then : hem_lengths (point_of places) (faces other_first) ≡ 12 ∷ 5 ∷ []

-- ---- without the normals setting

-- two triangles at one edge, with a normal for each: one hem, in one panel of the list; under the normals setting there are two panels, and
-- face 1, which has half of the hem, would not be in the hem's
pub record PartedByNormals : Type 0 where
  pub is_accepted : mesh_number creased ≡ 0
  pub oriented : verdict (edges_of (faces creased)) ≡ Oriented
  pub one_hem : house_wires_of (faces creased) ≡ (0 ∷ 3 ∷ 1 ∷ 2 ∷ []) ∷ []
  -- 4 of the 6 edges are hem edges
  pub its_edges : hem_edges (faces creased) ≡ 4 ∷ []
  pub its_panel : hem_panels (faces creased) ≡ 0 ∷ []
  pub together : panels false (faces creased) ≡ (0 ∷ 1 ∷ []) ∷ []
  pub parted : panels true (faces creased) ≡ (0 ∷ []) ∷ (1 ∷ []) ∷ []
  pub along : Along (faces creased) 0 (0, 3)
  pub used_by : Owns (faces creased) 1 (0, 3)
  pub left_out : has 1 (get_or (panels true (faces creased)) (get_or (hem_panels (faces creased)) 0 0) []) ≡ false

-- ---- the longest edge

-- from one corner of what is in reach to the one across from it, whatever the position but 0
abbrev pub across : ℕ → Point
across zero = (negsuc 999999, negsuc 999999, negsuc 999999)
across (suc p) = (pos 1000000, pos 1000000, pos 1000000)

-- there and back is as long as two edges can be: no lower bound holds
pub record BoundIsMet : Type 0 where
  pub reached : (p : ℕ) → Reached (across p)
  pub edge : edge_length across (0, 1) ≡ longest_edge
  pub hem : hem_length across (0 ∷ 1 ∷ []) ≡ longest_edge * 2
