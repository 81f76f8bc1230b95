-- The call's answer: its numbers by the table, and what it answers and leaves. Assumes nothing.
use Rattle.std.specs.Prelude.{◌≡◌, Bool, true, false, not, List, [], ◌∷◌, ℕ, ◌≤◌, length}
use Rattle.mesh.specs.Mesh.{Mesh, Ring, faces}
use Rattle.mesh.specs.Listed.{Listed}
use Rattle.mesh.specs.Table.{mesh_number, when, first_of, lent, short}
use Rattle.edges.specs.Runs.{Edged}
use Rattle.edges.specs.Edges.{edges_of, Verdict, Irregular, Regular, Oriented, Closed, verdict}
use Rattle.edges.specs.Answers.{verdict_of}
use Rattle.tracing.specs.Answers.{corner_count, Answered}
use Rattle.tracing.specs.declared.Wires.{Wires}
use Rattle.turning.specs.Turning.{house_wires_of}
use Rattle.house.specs.declared.Housed.{Housed}

-- 9: a list is shorter than one number per corner
abbrev pub house_short : Mesh → ℕ → ℕ → Bool
house_short m flat lengths = short (lent flat (corner_count m.corners) ∷ lent lengths (corner_count m.corners) ∷ [])

-- 10: house wires are asked where the verdict is neither Oriented nor Closed
abbrev pub wired : Verdict → Bool
wired Irregular = false
wired Regular = false
wired Oriented = true
wired Closed = true

abbrev pub unwired : Mesh → Bool
unwired m = not (wired (verdict (edges_of (faces m))))

-- the numbers of the call: 0 to 5, 9 and 10
unfoldable pub house_number : Mesh → ℕ → ℕ → ℕ
house_number m flat lengths = first_of (mesh_number m ∷ when (house_short m flat lengths) 9 ∷ when (unwired m) 10 ∷ [])

-- the call: a mesh is given, and what the two lent lists hold before and afterwards
abbrev pub HouseAnswer : Mesh → Listed → Listed → Wires → Type 0
HouseAnswer m before afterwards answer =
    Answered (house_number m (length before.flat) (length before.lengths)) (house_wires_of (faces m)) before afterwards answer

-- what the wires of a mesh that is accepted are given
pub record HouseOf (corners sizes : List ℕ) (positions : ℕ) (flat lengths : List ℕ) : Type 0 where
  pub edged : Edged corners sizes positions
  pub numbers : corner_count corners ≤ length flat
  pub wires : corner_count corners ≤ length lengths

-- what they answer and leave, by the verdict v that was found: 10, or the wires
abbrev pub WiresDone : Verdict → List Ring → Listed → Listed → Wires → Type 0
WiresDone v fs before afterwards answer = Answered (when (not (wired v)) 10) (house_wires_of fs) before afterwards answer

-- the same, and the verdict of the faces beside it
pub record HouseDone (fs : List Ring) (before afterwards : Listed) (answer : Housed) : Type 0 where
  pub verdict_is : verdict_of answer.verdict ≡ verdict (edges_of fs)
  pub answered : WiresDone (verdict (edges_of fs)) fs before afterwards answer.wires
