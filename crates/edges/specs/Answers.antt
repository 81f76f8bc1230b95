-- The calls' answers: for each case of the enums the number and the verdict of document 01, and what each call answers and leaves.
-- Assumes nothing.
use Rattle.std.specs.Prelude.{◌≡◌, List, [], ◌∷◌, map, ℕ, ◌/◌, length}
use Rattle.std.proofs.Math.Option.{Option, none, some}
use Rattle.std.proofs.lemmas.List.Edits.{sets}
use Rattle.mesh.specs.Limits.{width}
use Rattle.mesh.specs.Mesh.{Mesh}
use Rattle.mesh.specs.Table.{mesh_number, when, first_of, lent, short, after}
use Rattle.verdicts.specs.Edges.{Edge, Verdict, verdict, hems}
pub use Rattle.verdicts.specs.Edges.{mesh_edges_of, start, end}
use Rattle.edges.specs.declared.ShellCondition.{ShellCondition}
use Rattle.edges.specs.declared.Judged.{Judged}
use Rattle.edges.specs.declared.Judged.TheVariants.{Found, Refused}
use Rattle.edges.specs.declared.HemEdges.{HemEdges}
use Rattle.edges.specs.declared.Hems.{Hems}

-- the verdict that each case stands for
unfoldable pub verdict_of : ShellCondition → Verdict
verdict_of ShellCondition.Irregular = Verdict.Irregular
verdict_of ShellCondition.Regular = Verdict.Regular
verdict_of ShellCondition.Oriented = Verdict.Oriented
verdict_of ShellCondition.Closed = Verdict.Closed

-- the number that each case stands for, and the verdict that it answers
pub record Answer : Type 0 where
  pub number : ℕ
  pub verdict : Option Verdict

unfoldable pub answer_of : Judged → Answer
answer_of (Found c) = record { number = 0; verdict = some (verdict_of c) }
answer_of (Refused n) = record { number = n; verdict = none }

-- a verdict is answered only with 0
unfoldable pub judged : Mesh → Answer
judged m = record { number = mesh_number m; verdict = after (mesh_number m) (some (verdict (mesh_edges_of m))) none }

-- the number of `hem_edges`: 0 to 5, and 9 where a list is shorter than one number per corner
unfoldable pub hem_number : Mesh → ℕ → ℕ → ℕ
hem_number m starts ends =
    first_of (mesh_number m ∷ when (short (lent starts (length m.corners / width) ∷ lent ends (length m.corners / width) ∷ [])) 9 ∷ [])

-- the two lists that `hem_edges` lends, at one moment
pub record HemLists : Type 0 where
  pub starts : List ℕ
  pub ends : List ℕ

abbrev pub hems_in : List ℕ → List ℕ → HemLists
hems_in s e = record { starts = s; ends = e }

-- the call: a mesh is given. What it answers, and what the two lent lists hold before and after it: on 0 the hem edges from their beginning
-- on, room past them unchanged, and how many there are; on any other number nothing is written, and the count is 0
pub record HemAnswer (m : Mesh) (before afterwards : HemLists) (answer : HemEdges) : Type 0 where
  pub number : answer.number ≡ hem_number m (length before.starts) (length before.ends)
  pub count : answer.count ≡ after answer.number (length (hems (mesh_edges_of m))) 0
  pub starts : afterwards.starts ≡ after answer.number (sets before.starts 0 (map start (hems (mesh_edges_of m)))) before.starts
  pub ends : afterwards.ends ≡ after answer.number (sets before.ends 0 (map end (hems (mesh_edges_of m)))) before.ends

-- what `hems_of` answers and leaves
pub record Hemmed (es : List Edge) (starts ends starts' ends' : List ℕ) (r : Hems) : Type 0 where
  pub count : r.count ≡ length (hems es)
  pub verdict : verdict_of r.verdict ≡ Rattle.verdicts.specs.Edges.verdict es
  pub starting : starts' ≡ sets starts 0 (map start (hems es))
  pub ending : ends' ≡ sets ends 0 (map end (hems es))
