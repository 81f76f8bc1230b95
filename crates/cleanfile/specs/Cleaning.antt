-- A panel file cleaned: it is read, folded faces are removed, what no face uses goes, and the mesh that is left is written as a panel file
-- (document 02, CR 1: 'to save a cleaned cover and open it in the same tool'). Assumes nothing.
use Rattle.std.specs.Prelude.{ℕ, ◌≡◌, List, [], ◌∷◌, length, ltb}
use Rattle.std.proofs.lemmas.List.Edits.{sets}
use Rattle.mesh.specs.Mesh.{Mesh}
use Rattle.mesh.specs.Table.{when, first_of, lent, short, after}
use Rattle.cleaning.specs.Cleaning.{cleaned}
use Rattle.reading.specs.Reading.{reading_number, panel_mesh}
use Rattle.written.specs.Pieces.{file_of, file_length, file_limit}
use Rattle.cleanfile.specs.declared.Cleaned.{Cleaned}

-- the mesh that is left of a file, and its file
abbrev pub mesh_left : List ℕ → Mesh
mesh_left file = cleaned (panel_mesh file)

unfoldable pub clean_file : List ℕ → List ℕ
clean_file file = file_of (mesh_left file)

-- the number returned: 9, the lent buffer is shorter than the largest file that a mesh can make; then 1, the given file is longer than that;
-- then what the reader answers
unfoldable pub cleaning_number : ℕ → List ℕ → ℕ
cleaning_number room file =
    first_of (when (short (lent room file_limit ∷ [])) 9 ∷ when (ltb file_limit (length file)) 1 ∷ reading_number [] file ∷ [])

-- what the call answers, and what the lent buffer holds before and after it: on 0 the cleaned file from its beginning on, room past it
-- unchanged, and how long the file is; on any other number nothing is written, and the length is 0
pub record PanelCleaned (file before afterwards : List ℕ) (answer : Cleaned) : Type 0 where
  pub number : answer.number ≡ cleaning_number (length before) file
  pub byte_count : answer.length ≡ after answer.number (file_length (mesh_left file)) 0
  pub bytes : afterwards ≡ after answer.number (sets before 0 (clean_file file)) before
