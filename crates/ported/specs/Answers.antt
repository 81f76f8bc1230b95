-- The call's answer: its numbers by the table, and what it answers and leaves. Assumes nothing.
use Rattle.std.specs.Prelude.{Bool, List, [], ◌∷◌, ℕ, ◌*◌, ◌≤◌, length}
use Rattle.mesh.specs.Mesh.{Mesh, faces}
use Rattle.mesh.specs.Listed.{Listed}
use Rattle.mesh.specs.Table.{mesh_number, when, first_of, lent, short}
use Rattle.edges.specs.Runs.{Edged}
use Rattle.edges.specs.Edges.{edges_of, hems}
use Rattle.tracing.specs.Answers.{corner_count, Answered}
use Rattle.tracing.specs.declared.Wires.{Wires}
use Rattle.ported.specs.Ported.{ported_wires}

-- 9: the flat list is shorter than two numbers per corner, or the lengths than one
abbrev pub ported_short : Mesh → ℕ → ℕ → Bool
ported_short m flat lengths = short (lent flat (2 * corner_count m.corners) ∷ lent lengths (corner_count m.corners) ∷ [])

-- the numbers of the call: 0 to 5 and 9
unfoldable pub ported_number : Mesh → ℕ → ℕ → ℕ
ported_number m flat lengths = first_of (mesh_number m ∷ when (ported_short m flat lengths) 9 ∷ [])

-- the call: a mesh is given, and what the two lent lists hold before and afterwards
abbrev pub PortedAnswer : Mesh → Listed → Listed → Wires → Type 0
PortedAnswer m before afterwards answer =
    Answered (ported_number m (length before.flat) (length before.lengths)) (ported_wires (hems (edges_of (faces m)))) before afterwards answer

-- what the wires of a mesh that is accepted are given
pub record PortedOf (corners sizes : List ℕ) (positions : ℕ) (flat lengths : List ℕ) : Type 0 where
  pub edged : Edged corners sizes positions
  pub numbers : 2 * corner_count corners ≤ length flat
  pub wires : corner_count corners ≤ length lengths
