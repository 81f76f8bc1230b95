-- How much of a scan is enough to know its sheet. Proved in proofs/. Assumes nothing.
use Rattle.std.specs.Prelude.{ℕ, suc, ◌<◌, ◌≡◌, List, length, take}
use Rattle.mesh.specs.Limits.{face_limit}
use Rattle.scanned.specs.Scan.{scan_length}
use Rattle.scanning.specs.Scanning.{scan_sheet}

-- the longest scan that can be accepted
abbrev pub scan_limit : ℕ
scan_limit = scan_length face_limit

-- a scan that is longer has the sheet of its beginning, one byte longer than that
abbrev pub BeginningIsEnough : Type 0
BeginningIsEnough = (file : List ℕ) → scan_limit < length file → scan_sheet (take (suc scan_limit) file) ≡ scan_sheet file
