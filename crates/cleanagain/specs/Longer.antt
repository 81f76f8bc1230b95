-- A cleaned file can be longer than the file it came from: a face that is cut open takes a record for each of its pieces. So a file within the
-- limit of the sheet can have a cleaned file beyond it, and the sheet of the one need not be that of the other. Proved in proofs/, by
-- computation. Assumes nothing.
use Rattle.std.specs.Prelude.{◌≡◌, false, [], ◌∷◌, ℕ, length, replicate, pos}
use Rattle.std.specs.Float.{fin}
use Rattle.lists.specs.Lists.{each}
use Rattle.mesh.specs.Mesh.{Mesh, mesh_of, Corner, missing}
use Rattle.reading.specs.Reading.{reading_number}
use Rattle.written.specs.Pieces.{file_of}
use Rattle.cleanfile.specs.Cleaning.{clean_file}

-- a corner by its position: texture and normal are missing
abbrev bare : ℕ → Corner
bare p = p ∷ missing ∷ missing ∷ 0 ∷ []

-- example 8 of document 01: five positions and the face (0,1,2,0,3,4), which is cut into (0,1,2) and (0,3,4)
abbrev pub example8 : Mesh
example8 = mesh_of (replicate 15 (fin false 0 (pos 0))) [] [] (each bare (0 ∷ 1 ∷ 2 ∷ 0 ∷ 3 ∷ 4 ∷ [])) (6 ∷ [])

pub record CleanedIsLonger : Type 0 where
  pub reads : reading_number [] (file_of example8) ≡ 0
  pub before : length (file_of example8) ≡ 221
  pub cleaned : length (clean_file (file_of example8)) ≡ 226
