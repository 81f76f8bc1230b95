-- What is left of a cleaned file, and its sheet, by the rules. A file that is read has finite coordinates, so that 'the same' is bit for bit
-- here, with no exception. Proved in proofs/. Assumes nothing.
use Rattle.std.specs.Prelude.{ℕ, ◌≤◌, ◌<◌, ◌≡◌, List, [], length, true}
use Rattle.little.specs.Little.{Bytes}
use Rattle.reading.specs.Reading.{reading_number, panel_mesh}
use Rattle.anyorder.specs.Orders.{Step, cleaned_by, sensible}
use Rattle.written.specs.Pieces.{file_of, file_limit}
use Rattle.cleanfile.specs.Cleaning.{mesh_left, clean_file}
use Rattle.lines.specs.Lines.{refusal}
use Rattle.sheet.specs.Sheet as sheet

-- a file of bytes, as every file is, that is read: its cleaned file is read too and is within the cleaner's limit; what is left of it is what
-- was left of the file; so cleaning it gives the same bytes
pub record CleanedAgain (file : List ℕ) : Type 0 where
  pub reads : reading_number [] (clean_file file) ≡ 0
  pub fits : length (clean_file file) ≤ file_limit
  pub same_mesh : mesh_left (clean_file file) ≡ mesh_left file
  pub same_bytes : clean_file (clean_file file) ≡ clean_file file

abbrev pub CleaningAgain : Type 0
CleaningAgain = (file : List ℕ) → Bytes file → reading_number [] file ≡ 0 → CleanedAgain file

-- a file that the sheet takes, whose cleaned file is within the sheet's limit too: the sheet of the cleaned file is the sheet of the file
abbrev pub SheetOfCleaned : Type 0
SheetOfCleaned =
    (file : List ℕ) → Bytes file → sheet.file_number file ≡ 0 → length (clean_file file) ≤ sheet.file_limit
    → sheet.sheet_of (clean_file file) ≡ sheet.sheet_of file

-- where it is not, its sheet is the one line `refused 1`
abbrev pub SheetOfLongCleaned : Type 0
SheetOfLongCleaned = (file : List ℕ) → sheet.file_limit < length (clean_file file) → sheet.sheet_of (clean_file file) ≡ refusal 1

-- and whatever sensible order a room cleans in, the file that it writes of a file is the cleaned file, byte for byte
abbrev pub OneFile : Type 0
OneFile =
    (file : List ℕ) → reading_number [] file ≡ 0 → (ss : List Step) → sensible ss ≡ true → file_of (cleaned_by ss (panel_mesh file)) ≡ clean_file file
