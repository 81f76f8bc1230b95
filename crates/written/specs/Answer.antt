-- What the writer answers: its number, how long the file is, and the lent buffer afterwards. Assumes nothing.
use Rattle.std.specs.Prelude.{ℕ, ◌≤◌, ◌≡◌, true, not, List, [], ◌∷◌, length}
use Rattle.std.proofs.lemmas.List.Edits.{sets}
use Rattle.mesh.specs.Mesh.{Mesh}
use Rattle.mesh.specs.Table.{when, first_of, mesh_number, lent, short, after}
use Rattle.written.specs.declared.Saved.{Saved}
use Rattle.written.specs.Pieces.{finite_mesh, file_of, file_length}

-- the number returned: 1 to 5 of the mesh; then 14, a coordinate is not finite; then 9, the lent buffer is shorter than the whole file
unfoldable pub saving_number : Mesh → ℕ → ℕ
saving_number m room =
    first_of (mesh_number m ∷ when (not (finite_mesh m)) 14 ∷ when (short (lent room (file_length m) ∷ [])) 9 ∷ [])

-- what the call answers, and what the lent buffer holds before and after it: on 0 the file from its beginning on, room past it unchanged,
-- and how long the file is; on any other number nothing is written, and the length is 0
pub record PanelWritten (m : Mesh) (before afterwards : List ℕ) (answer : Saved) : Type 0 where
  pub number : answer.number ≡ saving_number m (length before)
  pub byte_count : answer.length ≡ after answer.number (file_length m) 0
  pub bytes : afterwards ≡ after answer.number (sets before 0 (file_of m)) before

-- the mesh m can be written to the buffer o
pub record Ready (m : Mesh) (o : List ℕ) : Type 0 where
  pub accepted : mesh_number m ≡ 0
  pub are_finite : finite_mesh m ≡ true
  pub room : file_length m ≤ length o
