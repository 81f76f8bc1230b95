-- What the rows come to, for whoever lists the wires by them: where the verdict is Oriented or Closed, they turn as document 02, request 5,
-- has it. Faces are given by their positions. Proved in proofs/Turned.antt. Assumes nothing.
use Rattle.std.specs.Prelude.{◌≡◌, true, List, map, ℕ, ◌*◌, ◌<◌, length, get_or}
use Rattle.mesh.specs.Limits.{width}
use Rattle.mesh.specs.Mesh.{position, rings}
use Rattle.mesh.specs.Edges.{edges_of, Edged}
use Rattle.uses.specs.Uses.{Gathered}
use Rattle.verdicts.specs.Edges.{mesh_edges, verdict, hems}
use Rattle.turning.specs.Turning.{is_hem, onward}
use Rattle.turning.specs.Promise.{Fit}
use Rattle.turning.specs.Rows.{edge_at, place_count}
use Rattle.crossing.specs.Crossing.{after_row, twinned, follow_row, alone}

-- the rows of a mesh with n positions, as the code leaves them: its sorted uses, each place's next, and the twins over what the row `old` held
pub record Rowed (cs s : List ℕ) (n : ℕ) (lowers highers downs order old after twins : List ℕ) : Type 0 where
  pub edged : Edged cs s n
  pub gathered : Gathered n (edges_of (rings s cs)) lowers highers downs order
  pub room : length old ≡ length lowers
  pub after_is : after ≡ after_row s
  pub twins_are : twins ≡ twinned lowers highers order (length order) old

-- the faces, by their positions
abbrev pub faces_in : List ℕ → List ℕ → List (List ℕ)
faces_in cs s = map (map position) (rings s cs)

-- an edge runs from the position at its place to that at the next place of its face
pub record Ends (cs : List ℕ) (fs : List (List ℕ)) (after : List ℕ) : Type 0 where
  pub begins : (u : ℕ) → u < place_count fs → (edge_at fs u).0 ≡ get_or cs (width * u) 0
  pub ends : (u : ℕ) → u < place_count fs → (edge_at fs u).1 ≡ get_or cs (width * get_or after u 0) 0

pub record Turned (fs : List (List ℕ)) (twins follows : List ℕ) : Type 0 where
  -- no other place has a place's edge exactly where that is a hem edge
  pub hem_is : (u : ℕ) → u < place_count fs → alone twins u ≡ is_hem (hems (mesh_edges fs)) (edge_at fs u)
  -- what follows the place of a hem edge is one: the place of the edge that the rule has follow it. No place follows two
  pub inside : (u : ℕ) → u < place_count fs → get_or follows u 0 < place_count fs
  pub reaches : (u : ℕ) → u < place_count fs → alone twins u ≡ true → alone twins (get_or follows u 0) ≡ true
  pub onward_is : (u : ℕ) → u < place_count fs → alone twins u ≡ true → edge_at fs (get_or follows u 0) ≡ onward fs (edge_at fs u)
  pub one_to_one :
      (u v : ℕ) → u < place_count fs → v < place_count fs → alone twins u ≡ true → alone twins v ≡ true → get_or follows u 0 ≡ get_or follows v 0 → u ≡ v

abbrev pub RowsTurn : Type 0
RowsTurn =
    (cs s : List ℕ) (n : ℕ) (lowers highers downs order old after twins : List ℕ) → Rowed cs s n lowers highers downs order old after twins
    → Fit (verdict (edges_of (rings s cs))) → Turned (faces_in cs s) twins (follow_row after twins)
