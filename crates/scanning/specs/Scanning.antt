-- The sheet of a scan, as document 01, 'The panel file and the sheet', has it for a panel file: read, cleaned, found and printed. Assumes
-- nothing.
use Rattle.std.specs.Prelude.{◌≤◌, ◌≡◌, List, [], ℕ, length}
use Rattle.std.proofs.lemmas.List.Edits.{sets}
use Rattle.mesh.specs.Table.{after}
use Rattle.scanned.specs.Scan.{scan_number, scan_mesh}
use Rattle.sheet.specs.Sheet.{printed, sheet_number}
use Rattle.sheet.specs.declared.Answer.{Answer}

-- a refused scan prints only `refused` and its number; any other the sheet of its mesh after cleaning
unfoldable pub scan_sheet : List ℕ → List ℕ
scan_sheet file = printed (scan_number [] file) (scan_mesh file)

-- what the call answers, and what the lent list holds before and after it: on 0 the sheet from its beginning on, room past it unchanged,
-- and the sheet's length, which is never more than the list has; with 9 nothing is written, and the length is 0
pub record ScanPrinted (file before afterwards : List ℕ) (answer : Answer) : Type 0 where
  pub number : answer.number ≡ sheet_number (length before)
  pub count : answer.length ≡ after answer.number (length (scan_sheet file)) 0
  pub bytes : afterwards ≡ after answer.number (sets before 0 (scan_sheet file)) before
  pub fits : answer.length ≤ length before
