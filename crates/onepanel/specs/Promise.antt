-- A hem belongs to one panel, where the verdict is Oriented or Closed: what sews along it is one piece of cloth. Proved in proofs/. Assumes
-- nothing.
use Rattle.std.specs.Prelude.{◌≡◌, true, false, List, [], map, ℕ, get_or}
use Rattle.lists.specs.Lists.{some, together}
use Rattle.mesh.specs.Mesh.{Ring, position}
use Rattle.edges.specs.Edges.{Edge, same, ring_edges, edges_of, verdict}
use Rattle.turning.specs.Turning.{house_wires_of}
use Rattle.turning.specs.Promise.{Fit}
use Rattle.panels.specs.Panels.{panels}

module _ (fs : List Ring) where
  -- wire k has the edge d: its edges run from each position to the next and from the last to the first
  abbrev pub Along : ℕ → Edge → Type 0
  Along k d = some (same d) (ring_edges (get_or (house_wires_of fs) k [])) ≡ true

  -- face x uses the edge d
  abbrev pub Owns : ℕ → Edge → Type 0
  Owns x d = some (same d) (ring_edges (map position (get_or fs x []))) ≡ true

-- wherever two edges of one wire are used, the two faces are together in a panel, without the normals setting
abbrev pub OnePanel : Type 0
OnePanel =
    (fs : List Ring) → Fit (verdict (edges_of fs))
    → (k : ℕ) (d e : Edge) → Along fs k d → Along fs k e
    → (x y : ℕ) → Owns fs x d → Owns fs y e
    → together x y (panels false fs) ≡ true
