-- What demand 3 does not say. It speaks of the calls on the same faces, and cleaning may make other faces of them: a folded face is
-- cut by the corner at which it begins, and compaction numbers positions by their first use. Small meshes that show it, by positions
-- only. Assumes nothing.
use Rattle.std.specs.Prelude.{◌≡◌, false, List, [], ◌∷◌, ℕ}
use Rattle.lists.specs.Lists.{some}
use Rattle.mesh.specs.Mesh.{Mesh, faces}
use Rattle.mesh.specs.Table.{mesh_number}
use Rattle.folding.specs.Folding.{folded}
use Rattle.unused.specs.Compaction.{compacted}
use Rattle.edges.specs.Edges.{Oriented, edges_of, verdict}
use Rattle.turning.specs.Turning.{house_wires_of}
use Rattle.order.specs.Same.{Same}
use Rattle.order.specs.Pairs.{plain, triangle}

-- the hems of a mesh, as its house wires
abbrev pub hems_of : Mesh → List (List ℕ)
hems_of m = house_wires_of (faces m)

-- the ring (0,1,2,0,3,1), which is folded, and the same ring begun one corner later, (1,2,0,3,1,0)
abbrev pub as_drawn : Mesh
as_drawn = plain 4 ((0 ∷ 1 ∷ 2 ∷ 0 ∷ 3 ∷ 1 ∷ []) ∷ [])

abbrev pub one_later : Mesh
one_later = plain 4 ((1 ∷ 2 ∷ 0 ∷ 3 ∷ 1 ∷ 0 ∷ []) ∷ [])

-- two triangles, neither folded, and the same two exchanged
abbrev pub two_panels : Mesh
two_panels = plain 4 (triangle 0 1 2 ∷ triangle 0 2 3 ∷ [])

abbrev pub other_first : Mesh
other_first = plain 4 (triangle 0 2 3 ∷ triangle 0 1 2 ∷ [])

-- two triangles with a third that touches them at one point, and the same three, the last two exchanged
abbrev pub touching : Mesh
touching = plain 6 (triangle 0 1 2 ∷ triangle 0 2 3 ∷ triangle 2 4 5 ∷ [])

abbrev pub touching_later : Mesh
touching_later = plain 6 (triangle 0 1 2 ∷ triangle 2 4 5 ∷ triangle 0 2 3 ∷ [])

-- a cover of unfolded faces whose hems touch, in two orders: it has two hems in either, and so after compaction, under other numbers. By
-- document 01's rule, the smallest end, the other order had the one hem 0 1 2 3 4 2 5 after compaction
pub record TouchingHems : Type 0 where
  pub both_accepted : (mesh_number touching ≡ 0) × (mesh_number touching_later ≡ 0)
  pub both_unfolded : (some folded (faces touching) ≡ false) × (some folded (faces touching_later) ≡ false)
  pub same_faces : Same (faces touching) (faces touching_later)
  pub both_oriented : (verdict (edges_of (faces touching)) ≡ Oriented) × (verdict (edges_of (faces touching_later)) ≡ Oriented)
  -- in the numbers of the file the hems are the same
  pub own_hems : hems_of touching ≡ (0 ∷ 1 ∷ 2 ∷ 3 ∷ []) ∷ (2 ∷ 4 ∷ 5 ∷ []) ∷ []
  pub own_hems_later : hems_of touching_later ≡ (0 ∷ 1 ∷ 2 ∷ 3 ∷ []) ∷ (2 ∷ 4 ∷ 5 ∷ []) ∷ []
  -- after compaction they go by first use
  pub two_hems : hems_of (compacted touching) ≡ (0 ∷ 1 ∷ 2 ∷ 3 ∷ []) ∷ (2 ∷ 4 ∷ 5 ∷ []) ∷ []
  pub still_two : hems_of (compacted touching_later) ≡ (0 ∷ 1 ∷ 2 ∷ 5 ∷ []) ∷ (2 ∷ 3 ∷ 4 ∷ []) ∷ []
