-- What the reader's own lists hold once the reading has stopped, for the contracts of its inner functions. Assumes nothing.
use Rattle.std.specs.Prelude.{ℕ, ◌≤◌, List, length}
use Rattle.mesh.specs.Limits.{face_limit, corner_numbers}
use Rattle.mesh.specs.Mesh.{Mesh}
use Rattle.steps.specs.declared.Progress.{Progress}
use Rattle.steps.specs.Working.{Within, Long, Holds}
use Rattle.reading.specs.Reading.{read_all}

-- the reader has stopped, and its own lists hold what the whole file draws
pub record Drawing (file : List ℕ) (x : Progress) (l : Mesh) : Type 0 where
  pub within : Within (length file) x
  pub long : Long l
  pub holds : Holds (read_all file) x l

-- the same, with room for its faces
pub record Gathered (file : List ℕ) (x : Progress) (l : Mesh) (cs ns : List ℕ) : Type 0 where
  pub drawing : Drawing file x l
  pub corners : corner_numbers ≤ length cs
  pub sizes : face_limit ≤ length ns
