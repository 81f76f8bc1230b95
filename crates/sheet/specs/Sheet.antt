-- The sheet of a panel file (added), as document 01, 'The panel file and the sheet', has it: from the file's bytes to the sheet's.
-- What it says of a mesh stands in finding's specs/Found.antt, its lines in lines' specs/Lines.antt. Assumes nothing.
use Rattle.std.specs.Prelude.{ℕ, zero, suc, ◌≤◌, ◌≡◌, List, [], ◌∷◌, length, ltb}
use Rattle.std.proofs.lemmas.List.Edits.{sets}
use Rattle.mesh.specs.Mesh.{Mesh}
use Rattle.mesh.specs.Table.{when, first_of, lent, short, after}
use Rattle.reading.specs.Reading.{reading_number, panel_mesh}
use Rattle.cleaning.specs.Cleaning.{cleaned}
use Rattle.lines.specs.Lines.{sheet_text, sheet_room, refusal}
use Rattle.finding.specs.Found.{found_in}
use Rattle.sheet.specs.declared.Answer.{Answer}

-- a refused file prints only `refused` and its number; any other the sheet of its mesh after cleaning
unfoldable pub printed : ℕ → Mesh → List ℕ
printed zero m = sheet_text (found_in (cleaned m))
printed (suc n) m = refusal (suc n)

-- a file of at most 65,536 bytes; more gives 1
abbrev pub file_limit : ℕ
file_limit = 65536

unfoldable pub file_number : List ℕ → ℕ
file_number file = first_of (when (ltb file_limit (length file)) 1 ∷ reading_number [] file ∷ [])

unfoldable pub sheet_of : List ℕ → List ℕ
sheet_of file = printed (file_number file) (panel_mesh file)

-- 9: the lent list is shorter than its stated room, which is room for every sheet
unfoldable pub sheet_number : ℕ → ℕ
sheet_number room = when (short (lent room sheet_room ∷ [])) 9

-- what the call answers, and what the lent list holds before and after it: on 0 the sheet from its beginning on, room past it unchanged,
-- and the sheet's length, which is never more than the list has; with 9 nothing is written, and the length is 0
pub record Printed (file before afterwards : List ℕ) (answer : Answer) : Type 0 where
  pub number : answer.number ≡ sheet_number (length before)
  pub count : answer.length ≡ after answer.number (length (sheet_of file)) 0
  pub bytes : afterwards ≡ after answer.number (sets before 0 (sheet_of file)) before
  pub fits : answer.length ≤ length before
