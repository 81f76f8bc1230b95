-- What the panels of hems rest on, and no rules of document 02. Assumes nothing.
use Rattle.std.specs.Prelude.{◌≡◌, List, ℕ, ◌≤◌, length}
use Rattle.lists.specs.Lists.{sum}
use Rattle.lists.specs.Cutting.{parts}
use Rattle.mesh.specs.Mesh.{rings}
use Rattle.edges.specs.Edges.{edges_of, verdict}
use Rattle.edges.specs.Runs.{Edged}
use Rattle.keys.specs.Columns.{Keyable}
use Rattle.tracing.specs.Answers.{corner_count}
use Rattle.turning.specs.Turning.{house_wires_of}
use Rattle.turning.specs.Promise.{Fit}

-- an accepted mesh with n positions whose verdict allows house wires, these wires as a flat list and a list of their numbers of edges, and
-- room for a panel of each
pub record Panelled (cs s : List ℕ) (n : ℕ) (flat edges out : List ℕ) : Type 0 where
  pub edged : Edged cs s n
  pub keyable : Keyable cs s
  pub fit : Fit (verdict (edges_of (rings s cs)))
  pub wires : parts edges flat ≡ house_wires_of (rings s cs)
  pub within : sum edges ≤ length flat
  pub few : length flat ≤ corner_count cs
  pub few_hems : length edges ≤ corner_count cs
  pub room : length edges ≤ length out
