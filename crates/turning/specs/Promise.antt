-- What the rule of house wires comes to, for whoever sews along them, where the verdict is Oriented or Closed. Faces are given by their
-- positions. Proved in proofs/. Assumes nothing.
use Rattle.std.specs.Prelude.{◌≡◌, ◌⊎◌, Bool, true, List, ℕ, ◌≤◌, length}
use Rattle.lists.specs.Lists.{count, every, joined}
use Rattle.edges.specs.Edges.{Edge, same, mesh_edges, Verdict, Oriented, Closed, verdict, hems}
use Rattle.turning.specs.Turning.{turns, is_hem, onward, house_wires}

-- house wires are asked for
abbrev pub Fit : Verdict → Type 0
Fit v = (v ≡ Oriented) ⊎ (v ≡ Closed)

-- e is a hem edge of the faces
abbrev pub Hem : List (List ℕ) → Edge → Type 0
Hem fs e = is_hem (hems (mesh_edges fs)) e ≡ true

pub record HemsTurn (fs : List (List ℕ)) : Type 0 where
  -- turning from a hem edge reaches a hem edge; it starts where that edge ends; and no hem edge is reached from two
  pub reaches : (e : Edge) → Hem fs e → Hem fs (onward fs e)
  pub goes_on : (e : Edge) → Hem fs e → (onward fs e).0 ≡ e.1
  pub one_to_one : (d e : Edge) → Hem fs d → Hem fs e → onward fs d ≡ onward fs e → d ≡ e
  -- every hem edge is used exactly once by the wires, and nothing else is: as many of their edges pass any test as hem edges do
  pub every_hem_once : (p : Edge → Bool) → count p (mesh_edges (house_wires fs)) ≡ count p (hems (mesh_edges fs))
  -- in each wire every edge is the one that follows the edge before it, and the first is the one that follows the last
  pub every_wire_closes : every (λ t. same (onward fs t.0) t.1) (turns (house_wires fs)) ≡ true
  -- the wires' edges add up to the hem edges, and there are no more wires than these
  pub edges_add_up : length (joined (house_wires fs)) ≡ length (hems (mesh_edges fs))
  pub wires_few : length (house_wires fs) ≤ length (hems (mesh_edges fs))

abbrev pub HemsTurnThrough : Type 0
HemsTurnThrough = (fs : List (List ℕ)) → Fit (verdict (mesh_edges fs)) → HemsTurn fs
