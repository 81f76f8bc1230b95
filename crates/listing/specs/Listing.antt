-- What the list of an accepted mesh rests on, and what it answers and leaves; no rules of document 02. Assumes nothing.
use Rattle.std.specs.Prelude.{◌≡◌, not, List, ℕ, ◌≤◌, length, ℤ}
use Rattle.std.proofs.lemmas.List.Edits.{sets}
use Rattle.mesh.specs.Limits.{corner_limit}
use Rattle.mesh.specs.Mesh.{Ring}
use Rattle.mesh.specs.Table.{when, after}
use Rattle.edges.specs.Edges.{edges_of, verdict}
use Rattle.edges.specs.Runs.{Edged}
use Rattle.keys.specs.Columns.{Keyable}
use Rattle.tracing.specs.Answers.{corner_count}
use Rattle.turning.specs.Turning.{house_wires_of}
use Rattle.house.specs.Answers.{wired}
use Rattle.hemlist.specs.HemList.{point_of, hem_panels, hem_edges, hem_lengths}
use Rattle.hemlist.specs.Answer.{HemLists}
use Rattle.hemlist.specs.Working.{Located}
use Rattle.hemlist.specs.declared.Listed.{Listed}

-- an accepted mesh with n positions, a triple for each, none beyond reach, and room in each list for one entry per corner
pub record Listable (corners sizes : List ℕ) (n : ℕ) (cs : List ℤ) (panels edges lengths : List ℕ) : Type 0 where
  pub edged : Edged corners sizes n
  pub keyable : Keyable corners sizes
  pub located : Located cs n
  pub panel_room : corner_count corners ≤ length panels
  pub edge_room : corner_count corners ≤ length edges
  pub length_room : corner_count corners ≤ length lengths

-- the same, and a row for the positions of all wires
pub record ListRow (corners sizes : List ℕ) (n : ℕ) (cs : List ℤ) (flat panels edges lengths : List ℕ) : Type 0 where
  pub listable : Listable corners sizes n cs panels edges lengths
  pub flat_long : length flat ≡ corner_limit

-- a refusal: the count beside the number is 0
abbrev pub refused_by : ℕ → Listed
refused_by n = record { number = n; hems = 0 }

-- 10, or the list of the faces
pub record ListDone (cs : List ℤ) (fs : List Ring) (before afterwards : HemLists) (answer : Listed) : Type 0 where
  pub number : answer.number ≡ when (not (wired (verdict (edges_of fs)))) 10
  pub hem_count_is : answer.hems ≡ after answer.number (length (house_wires_of fs)) 0
  pub panels : afterwards.panels ≡ after answer.number (sets before.panels 0 (hem_panels fs)) before.panels
  pub edges : afterwards.edges ≡ after answer.number (sets before.edges 0 (hem_edges fs)) before.edges
  pub lengths : afterwards.lengths ≡ after answer.number (sets before.lengths 0 (hem_lengths (point_of cs) fs)) before.lengths
