-- The list of hems (added), as document 02, CR 13, has it: for each hem of CR 5, which is a house wire, its panel, its number of edges and
-- its length; and the numbers by which it is refused. Assumes nothing.
use Rattle.std.specs.Prelude.{Bool, false, cond, not, List, [], ◌∷◌, map, ℕ, suc, ◌+◌, ◌*◌, ltb, eqb, length, get_or, ℤ, pos, nat_abs}
use Rattle.lists.specs.Lists.{some, has, sum}
use Rattle.mesh.specs.Limits.{point_width}
use Rattle.mesh.specs.Mesh.{Mesh, Ring, position, position_count}
use Rattle.mesh.specs.Table.{mesh_number, when, first_of, lent, short}
use Rattle.edges.specs.Edges.{Edge, same, ring_edges}
use Rattle.tracing.specs.Answers.{corner_count}
use Rattle.turning.specs.Turning.{house_wires_of}
use Rattle.house.specs.Answers.{unwired}
use Rattle.panels.specs.Panels.{panels}
use Rattle.roots.specs.Roots.{root_of}
use Rattle.roots.specs.Distances.{Point, coordinate_limit, squared_distance}

-- ---- lengths

-- whole-number coordinates in tenths of a millimetre, one triple for each position, one behind the other
abbrev pub point_of : List ℤ → ℕ → Point
point_of cs p = (get_or cs (point_width * p) (pos 0), get_or cs (point_width * p + 1) (pos 0), get_or cs (point_width * p + 2) (pos 0))

module _ (at : ℕ → Point) where
  -- an edge's length is the greatest whole number whose square is at most the squared distance
  unfoldable pub edge_length : Edge → ℕ
  edge_length e = root_of (squared_distance (at e.0) (at e.1))

  -- the hem's length is the sum, over all its edges: from each position to the next, and from the last to the first
  abbrev pub hem_length : List ℕ → ℕ
  hem_length w = sum (map edge_length (ring_edges w))

-- ---- panels, numbered as `components` lists them, from 0, without the normals setting

module _ {A : Type 0} where
  -- the place of the first that passes the test; how many there are where none does
  abbrev pub first_at : (A → Bool) → List A → ℕ
  first_at p [] = 0
  first_at p (x ∷ l) = cond (p x) 0 (suc (first_at p l))

-- the face that uses the edge d; the panel that has the face x
unfoldable pub face_of : List Ring → Edge → ℕ
face_of fs d = first_at (λ f. some (same d) (ring_edges (map position f))) fs

unfoldable pub panel_of : List Ring → ℕ → ℕ
panel_of fs x = first_at (has x) (panels false fs)

-- all edges of a hem lie in one panel, which is a law: so the first of them tells which
abbrev pub first_edge_lem : List ℕ → Edge
first_edge_lem w = get_or (ring_edges w) 0 (0, 0)

unfoldable pub hem_panel : List Ring → List ℕ → ℕ
hem_panel fs w = panel_of fs (face_of fs (first_edge_lem w))

-- ---- the list, hem by hem, in the order of the house wires

unfoldable pub hem_panels : List Ring → List ℕ
hem_panels fs = map (hem_panel fs) (house_wires_of fs)

unfoldable pub hem_edges : List Ring → List ℕ
hem_edges fs = map (λ (w : List ℕ). length (ring_edges w)) (house_wires_of fs)

unfoldable pub hem_lengths : (ℕ → Point) → List Ring → List ℕ
hem_lengths at fs = map (hem_length at) (house_wires_of fs)

-- ---- refusals

-- 18: the triples don't match the number of positions
unfoldable pub unmatched : Mesh → List ℤ → Bool
unmatched m cs = not (eqb (length cs) (point_width * position_count m))

-- 19: a coordinate is beyond 1,000,000 either way
abbrev pub too_far : ℤ → Bool
too_far a = ltb coordinate_limit (nat_abs a)

unfoldable pub beyond_reach : List ℤ → Bool
beyond_reach cs = some too_far cs

-- 9: one entry per corner in each list
unfoldable pub list_short : Mesh → ℕ → ℕ → ℕ → Bool
list_short m panels edges lengths =
    short (lent panels (corner_count m.corners) ∷ lent edges (corner_count m.corners) ∷ lent lengths (corner_count m.corners) ∷ [])

-- the numbers of the call, by the room in its three lists: after 5 come 18 and 19, then 9, and 10 where the verdict is neither Oriented nor
-- Closed
unfoldable pub hem_list_number : Mesh → List ℤ → ℕ → ℕ → ℕ → ℕ
hem_list_number m cs panels edges lengths =
    first_of
    (mesh_number m ∷ when (unmatched m cs) 18 ∷ when (beyond_reach cs) 19 ∷ when (list_short m panels edges lengths) 9 ∷ when (unwired m) 10 ∷ [])
