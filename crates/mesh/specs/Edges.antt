-- Edges: of a ring, of a face, of all faces; and an edge without direction, as document 01, 'Edges, verdict and wires', has them.
-- Assumes nothing.
use Rattle.std.specs.Prelude.{ℕ, ◌*◌, ◌/◌, ◌<◌, ◌≤◌, Bool, cond, ◌&&◌, List, [], ◌∷◌, ◌++◌, map, length, ◌==◌, nat_le, slice_index}
use Rattle.mesh.specs.Limits.{width, entry_limit}
use Rattle.mesh.specs.Mesh.{Ring, position}
use Rattle.mesh.specs.Face.{Sound}

module _ {A : Type 0} where
  -- the edges of a walk from a through the list to z
  abbrev pub run_edges : A → List A → A → List (A × A)
  run_edges a [] z = (a, z) ∷ []
  run_edges a (b ∷ r) z = (a, b) ∷ run_edges b r z

  -- a face's edges run from each corner to the next and from the last to the first
  abbrev pub ring_edges : List A → List (A × A)
  ring_edges [] = []
  ring_edges (a ∷ r) = run_edges a r a

  -- the edges of all faces, in the order of the faces
  abbrev pub mesh_edges : List (List A) → List (A × A)
  mesh_edges [] = []
  mesh_edges (f ∷ fs) = ring_edges f ++ mesh_edges fs

-- an edge runs from a position to a position
abbrev pub Edge : Type 0
Edge = ℕ × ℕ

-- the edges of the faces, by position
abbrev pub edges_of : List Ring → List Edge
edges_of fs = mesh_edges (map (map position) fs)

-- whether two edges have the same start and the same end
abbrev pub same : Edge → Edge → Bool
same d e = d.0 == e.0 && d.1 == e.1

-- an edge without direction is its lower and higher position; the two may be equal
abbrev pub flip : Edge → Edge
flip e = (e.1, e.0)

unfoldable pub key : Edge → Edge
key e = cond (nat_le e.0 e.1) e (flip e)

-- what calls between crates rest on: sizes that add up to the corners, not too many positions, and every corner at one of them
pub record Edged (cs s : List ℕ) (n : ℕ) : Type 0 where
  pub sound : Sound cs s
  pub few : n ≤ entry_limit
  pub below : (k : ℕ) → k < length cs / width → slice_index cs (width * k) < n
