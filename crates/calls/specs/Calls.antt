-- A call on a mesh: what was lent, what is there afterwards and what was answered, any of it that the contract allows. Lists that are
-- lent have the stated room. Each contract is the definition that the source of the call cites. Assumes nothing.
use Rattle.std.specs.Prelude.{◌≡◌, Bool, List, ℕ, ◌*◌, ◌/◌, ◌≤◌, length, take}
use Rattle.mesh.specs.Limits.{width}
use Rattle.mesh.specs.Mesh.{Mesh}
use Rattle.mesh.specs.Listed.{Listed}
use Rattle.edges.specs.Edges.{Edge}
use Rattle.edges.specs.Answers.{answer_of, judged, HemLists, HemAnswer}
use Rattle.edges.specs.declared.ShellCondition.{ShellCondition}
use Rattle.edges.specs.declared.Judged.{Judged}
use Rattle.edges.specs.declared.Judged.TheVariants.{Found}
use Rattle.edges.specs.declared.HemEdges.{HemEdges}
use Rattle.tracing.specs.Hems.{pairs}
use Rattle.tracing.specs.declared.Wires.{Wires}
use Rattle.ported.specs.Answers.{PortedAnswer}
use Rattle.house.specs.Answers.{HouseAnswer}
use Rattle.lists.specs.Cutting.{parts}
use Rattle.panels.specs.Contract.{PanelsAnswer}
use Rattle.panels.specs.declared.Answer.{Answer}

-- how many corners a mesh has: the stated room of most lists
abbrev pub corners_of : Mesh → ℕ
corners_of m = length m.corners / width

-- ---- `edges::shell_condition`

pub record VerdictCall (m : Mesh) : Type 0 where
  pub answer : Judged
  pub contract : answer_of answer ≡ judged m

-- it answers this verdict
abbrev pub Says : {m : Mesh} → VerdictCall m → ShellCondition → Type 0
Says v c = v.answer ≡ Found c

-- ---- `edges::hem_edges`

pub record HemCall (m : Mesh) : Type 0 where
  pub before : HemLists
  pub afterwards : HemLists
  pub answer : HemEdges
  pub contract : HemAnswer m before afterwards answer
  pub starts_room : corners_of m ≤ length before.starts
  pub ends_room : corners_of m ≤ length before.ends

-- what is written at the front of the two lists
module _ {m : Mesh} (r : HemCall m) where
  abbrev pub starts_written : List ℕ
  starts_written = take r.answer.count r.afterwards.starts

  abbrev pub ends_written : List ℕ
  ends_written = take r.answer.count r.afterwards.ends

  abbrev pub edges_written : List Edge
  edges_written = pairs starts_written ends_written

-- ---- `house::house_wires` and `ported::extract_boundaries`

-- what either of them leaves: its answer and the two lists
pub record WiresLeft : Type 0 where
  pub answer : Wires
  pub lists : Listed

pub record HouseCall (m : Mesh) : Type 0 where
  pub before : Listed
  pub left : WiresLeft
  pub contract : HouseAnswer m before left.lists left.answer
  pub flat_room : corners_of m ≤ length before.flat
  pub lengths_room : corners_of m ≤ length before.lengths

pub record PortedCall (m : Mesh) : Type 0 where
  pub before : Listed
  pub left : WiresLeft
  pub contract : PortedAnswer m before left.lists left.answer
  pub flat_room : 2 * corners_of m ≤ length before.flat
  pub lengths_room : corners_of m ≤ length before.lengths

-- ---- `panels::components`

pub record PanelCall (normals : Bool) (m : Mesh) : Type 0 where
  pub before : Listed
  pub afterwards : Listed
  pub answer : Answer
  pub contract : PanelsAnswer m normals before afterwards answer
  pub flat_room : corners_of m ≤ length before.flat
  pub lengths_room : corners_of m ≤ length before.lengths

-- the panels that are written: the flat list cut into parts of these lengths
abbrev pub panels_written : {normals : Bool} {m : Mesh} → PanelCall normals m → List (List ℕ)
panels_written r = parts (take r.answer.panels r.afterwards.lengths) (take r.answer.faces r.afterwards.flat)
