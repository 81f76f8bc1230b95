-- The steps of the code, and no rules of document 01: what its functions hand to one another. Assumes nothing.
use Rattle.std.specs.Prelude.{ℕ, ◌≤◌, ◌≡◌, List, length}
use Rattle.std.proofs.Math.Option.{Option, none, some}
use Rattle.std.proofs.lemmas.List.Edits.{sets}
use Rattle.lists.specs.Lists.{sum}
use Rattle.lists.specs.Cutting.{parts}
use Rattle.mesh.specs.Limits.{corner_limit}
use Rattle.mesh.specs.Table.{after}
use Rattle.edges.specs.Answers.{verdict_of}
use Rattle.lists.specs.Putting.{Room}
use Rattle.lines.specs.declared.Findings.{Findings}
use Rattle.lines.specs.Lines.{Found, hem_lines, sheet_room}

-- the wires, or none where house wires answered another number than 0
unfoldable pub wires_by : ℕ → List ℕ → List ℕ → Option (List (List ℕ))
wires_by number flat lengths = after number (some (parts lengths flat)) none

-- what was found, with its wires
unfoldable pub found_by : Findings → List ℕ → List ℕ → Found
found_by f flat lengths = record {
  positions = f.positions;
  textures = f.textures;
  normals = f.normals;
  faces = f.faces;
  verdict = verdict_of f.verdict;
  panels = f.panels;
  wires = wires_by f.number flat lengths;
}

-- lengths that do not go beyond the flat list, and room for the lines of the wires
pub record Wired (number : ℕ) (flat lengths out : List ℕ) (at : ℕ) : Type 0 where
  pub within : sum lengths ≤ length flat
  pub room : Room (hem_lines (wires_by number flat lengths)) out at

-- as many numbers and as many wires as a mesh can have, and room for every sheet
pub record Ready (flat lengths out : List ℕ) : Type 0 where
  pub within : sum lengths ≤ length flat
  pub few : length flat ≤ corner_limit
  pub few_wires : length lengths ≤ corner_limit
  pub room : sheet_room ≤ length out

-- the text stands at the front of the list, n bytes long, and fits in it
pub record Sheeted (text out out' : List ℕ) (n : ℕ) : Type 0 where
  pub text_is : out' ≡ sets out 0 text
  pub length_is : n ≡ length text
  pub fits : n ≤ length out
