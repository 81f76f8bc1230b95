-- What the functions of the crate hand to one another; a caller needs none of it. Assumes nothing.
use Rattle.std.specs.Prelude.{ℕ, ◌≤◌, ◌≡◌, List, length}
use Rattle.std.proofs.lemmas.List.Edits.{sets}
use Rattle.mesh.specs.Mesh.{Mesh}
use Rattle.mesh.specs.Table.{after}
use Rattle.written.specs.Pieces.{file_of, file_length, file_limit}
use Rattle.opening.specs.Opening.{FullRoom}
use Rattle.cleanfile.specs.declared.Cleaned.{Cleaned}

-- lists at the full limits for a mesh, and room for every file
pub record FileRoom (l : Mesh) (out : List ℕ) : Type 0 where
  pub lists : FullRoom l
  pub room : file_limit ≤ length out

-- a file that earns the number k, and whose mesh is m where that is 0: what is answered and left
pub record Answered (k : ℕ) (m : Mesh) (out out' : List ℕ) (answer : Cleaned) : Type 0 where
  pub number : answer.number ≡ k
  pub byte_count : answer.length ≡ after k (file_length m) 0
  pub bytes : out' ≡ after k (sets out 0 (file_of m)) out

-- a refusal: the length beside it is 0
abbrev pub refused_by : ℕ → Cleaned
refused_by n = record { number = n; length = 0 }
