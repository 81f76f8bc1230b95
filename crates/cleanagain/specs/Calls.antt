-- The calls that the programs make, `cleanfile::clean` and `sheet::sheet`: each with what was lent, with its room, what is there afterwards and
-- what was answered, any of it that the contract allows. Proved in proofs/. Assumes nothing.
use Rattle.std.specs.Prelude.{ℕ, ◌≤◌, ◌≡◌, List, [], length, take}
use Rattle.little.specs.Little.{Bytes}
use Rattle.reading.specs.Reading.{reading_number}
use Rattle.written.specs.Pieces.{file_limit}
use Rattle.cleanfile.specs.declared.Cleaned.{Cleaned}
use Rattle.cleanfile.specs.Cleaning.{PanelCleaned}
use Rattle.lines.specs.Lines.{sheet_room}
use Rattle.sheet.specs.Sheet as sheet
use Rattle.exports.specs.Sheets.{SheetCall, written}

-- ---- `cleanfile::clean`

pub record CleanCall (file : List ℕ) : Type 0 where
  pub out : List ℕ
  pub out' : List ℕ
  pub answer : Cleaned
  pub contract : PanelCleaned file out out' answer
  pub room : file_limit ≤ length out

-- the cleaned file: what is written at the front of the buffer
abbrev pub clean_bytes : {file : List ℕ} → CleanCall file → List ℕ
clean_bytes r = take r.answer.length r.out'

-- ---- a cleaned file is cleaned again

pub record SameBytes {file : List ℕ} (r : CleanCall file) (q : CleanCall (clean_bytes r)) : Type 0 where
  pub number : q.answer.number ≡ 0
  pub long : q.answer.length ≡ r.answer.length
  pub bytes : clean_bytes q ≡ clean_bytes r

-- whatever file was cleaned: nothing is asked of it but that it is bytes, as every lent file is, and that the first call answered 0
abbrev pub CallsCleanAgain : Type 0
CallsCleanAgain = (file : List ℕ) → Bytes file → (r : CleanCall file) → r.answer.number ≡ 0 → (q : CleanCall (clean_bytes r)) → SameBytes r q

-- ---- its sheet is printed

pub record SameSheet {a b : List ℕ} (r : SheetCall a) (q : SheetCall b) : Type 0 where
  pub same_answer : q.answer ≡ r.answer
  pub same_text : written q ≡ written r

-- where the file and its cleaned file are within the sheet's limit
abbrev pub CallsPrintTheSame : Type 0
CallsPrintTheSame =
    (file : List ℕ) → Bytes file → (r : CleanCall file) → r.answer.number ≡ 0 → length file ≤ sheet.file_limit → r.answer.length ≤ sheet.file_limit
    → (s : SheetCall file) (t : SheetCall (clean_bytes r)) → SameSheet s t

-- ---- what is asked of the calls can be had

pub record FilesCanBeHad : Type 0 where
  -- of every file and every buffer with room; and of a file that the reader takes, and that is no longer than any mesh makes, it answers 0
  pub cleaning_had : (file lent : List ℕ) → file_limit ≤ length lent → (r : CleanCall file) × (r.out ≡ lent)
  pub answers_0 : (file : List ℕ) → length file ≤ file_limit → reading_number [] file ≡ 0 → (r : CleanCall file) → r.answer.number ≡ 0
  -- of every file and every list that has the room and is long enough for its sheet
  pub sheet_had : (file lent : List ℕ) → sheet_room ≤ length lent → length (sheet.sheet_of file) ≤ length lent → (s : SheetCall file) × (s.out ≡ lent)
