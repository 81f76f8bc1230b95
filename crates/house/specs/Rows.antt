-- What the functions rest on: rows of one number for each corner. Assumes nothing.
use Rattle.std.specs.Prelude.{◌≡◌, List, ℕ, length}
use Rattle.mesh.specs.Mesh.{rings}
use Rattle.edges.specs.Edges.{edges_of, Verdict}
use Rattle.edges.specs.Runs.{JudgedUses}
use Rattle.uses.specs.Uses.{Rooms}
use Rattle.tracing.specs.Answers.{corner_count}
use Rattle.house.specs.Answers.{HouseOf}

-- what the wires are given, and rows of one number for each corner
pub record HouseRows (cs s : List ℕ) (n : ℕ) (lowers highers downs first order twins flat lengths : List ℕ) : Type 0 where
  pub given : HouseOf cs s n flat lengths
  pub rooms : Rooms (corner_count cs) lowers highers downs first order
  pub twin_room : length twins ≡ corner_count cs

-- the same where the uses are sorted, and have the verdict v
pub record WireRows (v : Verdict) (cs s : List ℕ) (n : ℕ) (lowers highers downs first order twins flat lengths : List ℕ) : Type 0 where
  pub given : HouseOf cs s n flat lengths
  pub judged : JudgedUses n (edges_of (rings s cs)) lowers highers downs order v
  pub next_room : length first ≡ corner_count cs
  pub twin_room : length twins ≡ corner_count cs
