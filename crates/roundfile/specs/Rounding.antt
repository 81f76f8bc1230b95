-- A panel file rounded: it is read and cleaned, the mesh that is left is smoothed once by Loop's method, and the result is written as a panel
-- file (document 02, CR 4: 'Designers draw a coarse cover and want it rounded'). Assumes nothing.
use Rattle.std.specs.Prelude.{ℕ, ◌≡◌, not, List, [], ◌∷◌, length, replicate, ltb, Float}
use Rattle.std.proofs.lemmas.List.Edits.{sets}
use Rattle.mesh.specs.Limits.{face_limit, point_numbers, corner_numbers}
use Rattle.mesh.specs.Mesh.{Mesh}
use Rattle.mesh.specs.Table.{when, first_of, lent, short, after}
use Rattle.floating.specs.Near.{nought}
use Rattle.cleaning.specs.Cleaning.{cleaned}
use Rattle.reading.specs.Reading.{reading_number, panel_mesh}
use Rattle.written.specs.Pieces.{finite_mesh, file_of, file_length, file_limit}
use Rattle.smoothed.specs.Refusals.{Result, lists, result_of, smoothing_number}
use Rattle.roundfile.specs.declared.Rounded.{Rounded}

-- the mesh that is left of a file, smoothed once, and its file
abbrev pub mesh_rounded : List ℕ → List Float → List Float → Mesh
mesh_rounded file ones twos = result_of (cleaned (panel_mesh file)) ones twos

unfoldable pub round_file : List ℕ → List Float → List Float → List ℕ
round_file file ones twos = file_of (mesh_rounded file ones twos)

-- smoothing is lent lists at the full limits
unfoldable pub full_lists : Result
full_lists = lists (replicate point_numbers nought) (replicate corner_numbers 0) (replicate face_limit 0)

-- a mesh that is smoothed and written: what smoothing answers; then 14, a coordinate of the result is not finite
unfoldable pub smoothed_number : Mesh → List Float → List Float → ℕ
smoothed_number m ones twos =
    first_of (smoothing_number m ones twos full_lists ∷ when (not (finite_mesh (result_of m ones twos))) 14 ∷ [])

-- a file that is not too long: what the reader answers; then the mesh that is left of it
unfoldable pub opened_number : List ℕ → List Float → List Float → ℕ
opened_number file ones twos = first_of (reading_number [] file ∷ smoothed_number (cleaned (panel_mesh file)) ones twos ∷ [])

-- the number returned: 9, the lent buffer is shorter than the largest file that a mesh can make; then 1, the given file is longer than that;
-- then the file's own
unfoldable pub rounding_number : ℕ → List ℕ → List Float → List Float → ℕ
rounding_number room file ones twos =
    first_of (when (short (lent room file_limit ∷ [])) 9 ∷ when (ltb file_limit (length file)) 1 ∷ opened_number file ones twos ∷ [])

-- what the call answers, and what the lent buffer holds before and after it: on 0 the rounded file from its beginning on, room past it
-- unchanged, and how long the file is; on any other number nothing is written, and the length is 0
pub record PanelRounded (file : List ℕ) (ones twos : List Float) (before afterwards : List ℕ) (answer : Rounded) : Type 0 where
  pub number : answer.number ≡ rounding_number (length before) file ones twos
  pub byte_count : answer.length ≡ after answer.number (file_length (mesh_rounded file ones twos)) 0
  pub bytes : afterwards ≡ after answer.number (sets before 0 (round_file file ones twos)) before
