-- The steps of the code, and no rules of document 01: the verdict by what a scan over the uses has seen (scans/specs/Runs.antt), and what
-- the functions rest on. Assumes nothing.
use Rattle.std.specs.Prelude.{◌≡◌, cond, List, ℕ, ◌/◌, length}
use Rattle.mesh.specs.Limits.{width}
pub use Rattle.mesh.specs.Edges.{Edged}
use Rattle.uses.specs.Uses.{Rooms, Gathered}
use Rattle.scans.specs.Runs.{HemRoom}
use Rattle.scans.specs.declared.Tally.{Tally}
use Rattle.verdicts.specs.Edges.{Edge, Verdict, Irregular, Regular, Oriented, Closed, verdict}

-- the verdict by what was seen
unfoldable pub named : Tally → Verdict
named t = cond t.thrice Irregular (cond t.alike Regular (cond t.once Oriented Closed))

-- the verdict v of the uses es, and rows that have their columns and their order
pub record JudgedUses (n : ℕ) (es : List Edge) (lowers highers downs order : List ℕ) (v : Verdict) : Type 0 where
  pub gathered : Gathered n es lowers highers downs order
  pub verdict_is : v ≡ verdict es

-- a mesh with n positions that is accepted, rows for its uses, and room for its hem edges
pub record HemRows (cs s : List ℕ) (n : ℕ) (lowers highers downs first order starts ends : List ℕ) : Type 0 where
  pub edged : Edged cs s n
  pub rooms : Rooms (length cs / width) lowers highers downs first order
  pub room : HemRoom (length cs / width) starts ends
