-- What the functions of the crate hand to one another; a caller needs none of it. Assumes nothing.
use Rattle.std.specs.Prelude.{ℕ, ◌≤◌, ◌≡◌, List, length}
use Rattle.std.proofs.lemmas.List.Edits.{sets}
use Rattle.mesh.specs.Limits.{face_limit, point_numbers, corner_numbers}
use Rattle.mesh.specs.Mesh.{Mesh}
use Rattle.mesh.specs.Table.{after}
use Rattle.written.specs.Pieces.{file_of, file_length, file_limit}
use Rattle.smoothed.specs.Refusals.{Result}
use Rattle.opening.specs.Opening.{FullRoom}
use Rattle.roundfile.specs.declared.Rounded.{Rounded}

-- lists at the full limits, for a mesh and for what smoothing gives, and room for every file
pub record FileRoom (l : Mesh) (out : List ℕ) : Type 0 where
  pub lists : FullRoom l
  pub room : file_limit ≤ length out

pub record SmoothRoom (r : Result) (out : List ℕ) : Type 0 where
  pub positions : length r.positions ≡ point_numbers
  pub corners : length r.corners ≡ corner_numbers
  pub sizes : length r.sizes ≡ face_limit
  pub room : file_limit ≤ length out

-- what earns the number k, and whose mesh is m where that is 0: what is answered and left
pub record Answered (k : ℕ) (m : Mesh) (out out' : List ℕ) (answer : Rounded) : Type 0 where
  pub number : answer.number ≡ k
  pub byte_count : answer.length ≡ after k (file_length m) 0
  pub bytes : out' ≡ after k (sets out 0 (file_of m)) out

-- a refusal: the length beside it is 0
abbrev pub refused_by : ℕ → Rounded
refused_by n = record { number = n; length = 0 }
