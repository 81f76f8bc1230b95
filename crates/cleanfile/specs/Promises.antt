-- What a caller may count on of a cleaned file, beyond the contract. Proved in proofs/. Assumes nothing.
use Rattle.std.specs.Prelude.{ℕ, ◌≤◌, ◌≡◌, List, [], length}
use Rattle.mesh.specs.Table.{mesh_number}
use Rattle.little.specs.Little.{Bytes}
use Rattle.reading.specs.Reading.{reading_number}
use Rattle.written.specs.Promises.{Reopens}
use Rattle.cleanfile.specs.declared.Cleaned.{Cleaned}
use Rattle.cleanfile.specs.Cleaning.{mesh_left, PanelCleaned}

-- what is left of a file that is read is an accepted mesh
abbrev pub LeftIsAccepted : Type 0
LeftIsAccepted = (file : List ℕ) → reading_number [] file ≡ 0 → mesh_number (mesh_left file) ≡ 0

-- the cleaned file is never longer than the buffer
abbrev pub CleanedFits : Type 0
CleanedFits = (file before afterwards : List ℕ) (answer : Cleaned) → PanelCleaned file before afterwards answer → answer.length ≤ length before

-- it is read again, into the mesh that was left, and written again byte for byte
abbrev pub CleanedReopens : Type 0
CleanedReopens = (file : List ℕ) → Bytes file → reading_number [] file ≡ 0 → Reopens (mesh_left file)
