-- The hem sheet of a file, as document 02, CR 13, has it: from the program's bytes to the sheet's. What it says of a mesh stands in hemtext's
-- specs/HemText.antt. Assumes nothing.
use Rattle.std.specs.Prelude.{ℕ, ◌+◌, ◌*◌, ◌/◌, ◌≤◌, ◌≡◌, Bool, not, List, [], ◌∷◌, length, take, drop, ltb, eqb, ℤ}
use Rattle.std.proofs.lemmas.List.Edits.{sets}
use Rattle.mesh.specs.Limits.{point_width}
use Rattle.mesh.specs.Mesh.{Mesh, faces, position_count}
use Rattle.mesh.specs.Table.{when, first_of, lent, short, after}
use Rattle.little.specs.Little.{word}
use Rattle.reading.specs.Reading.{reading_number, panel_mesh}
use Rattle.house.specs.Answers.{unwired}
use Rattle.hemlist.specs.HemList.{beyond_reach}
use Rattle.triples.specs.Triples.{coordinate_bytes, coordinates_in}
use Rattle.hemtext.specs.HemText.{printed, hem_room}
use Rattle.hemfile.specs.declared.Answer.{Answer}

-- ---- what stands where

-- a four-byte count
abbrev pub count_bytes : ℕ
count_bytes = 4

unfoldable pub panel_count : List ℕ → ℕ
panel_count file = word file 0

-- that many bytes of panel file
unfoldable pub panel_bytes : List ℕ → List ℕ
panel_bytes file = take (panel_count file) (drop count_bytes file)

-- then the triples
unfoldable pub triple_bytes : List ℕ → List ℕ
triple_bytes file = drop (count_bytes + panel_count file) file

-- the coordinates that so many bytes say
unfoldable pub coordinates_of : List ℕ → List ℤ
coordinates_of bytes = coordinates_in bytes (length bytes / coordinate_bytes)

-- the file's mesh, as it is read, not cleaned
abbrev pub mesh_of_file : List ℕ → Mesh
mesh_of_file file = panel_mesh (panel_bytes file)

-- ---- refusals

-- 1: over 65,536 bytes in all
abbrev pub file_limit : ℕ
file_limit = 65536

-- 18: the triples don't match the number of positions, or one is cut: there are not twelve bytes for each position
abbrev pub triple_width : ℕ
triple_width = point_width * coordinate_bytes

unfoldable pub astray_triples : ℕ → List ℕ → Bool
astray_triples positions bytes = not (eqb (length bytes) (triple_width * positions))

-- under four bytes, or under the count, 11; then the reader's numbers, to 5; then 18, 19, 10
unfoldable pub hem_file_number : List ℕ → ℕ
hem_file_number file =
    first_of (
    when (ltb file_limit (length file)) 1
    ∷ when (ltb (length file) count_bytes) 11
    ∷ when (ltb (length file) (count_bytes + panel_count file)) 11
    ∷ reading_number [] (panel_bytes file)
    ∷ when (astray_triples (position_count (mesh_of_file file)) (triple_bytes file)) 18
    ∷ when (beyond_reach (coordinates_of (triple_bytes file))) 19
    ∷ when (unwired (mesh_of_file file)) 10
    ∷ [])

-- ---- the sheet

unfoldable pub hem_sheet_of : List ℕ → List ℕ
hem_sheet_of file = printed (hem_file_number file) (coordinates_of (triple_bytes file)) (faces (mesh_of_file file))

-- 9: the lent list is shorter than its stated room, which is room for every sheet
unfoldable pub hem_sheet_number : ℕ → ℕ
hem_sheet_number room = when (short (lent room hem_room ∷ [])) 9

-- what the call answers, and what the lent list holds before and after it: on 0 the sheet from its beginning on, room past it unchanged,
-- and the sheet's length, which is never more than the list has; with 9 nothing is written, and the length is 0
pub record HemsPrinted (file before afterwards : List ℕ) (answer : Answer) : Type 0 where
  pub number : answer.number ≡ hem_sheet_number (length before)
  pub count : answer.length ≡ after answer.number (length (hem_sheet_of file)) 0
  pub bytes : afterwards ≡ after answer.number (sets before 0 (hem_sheet_of file)) before
  pub fits : answer.length ≤ length before
