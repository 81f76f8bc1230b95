-- The ways out of the call: its room is too short, or the sheet is the scan's. Assumes nothing.
use mathlib.Core.Path.{◌≡◌, refl, sym}
use mathlib.Core.List.{List, []}
use Prim.Native.Nat.{ℕ, ◌≤◌, ◌<◌}
use native.Mathlib.Omega.{arith}
use lib.ListN.{length}
use borrow.Author.Tests.{lt-ltb, le-ltb}
use Rattle.mesh.specs.Table.{short}
use Rattle.lines.specs.Lines.{sheet_room}
use Rattle.lines.specs.Working.{Sheeted}
use Rattle.scanned.specs.Scan.{scan_number, scan_mesh}
use Rattle.sheet.specs.Sheet.{printed, sheet_number}
use Rattle.scanning.specs.Scanning.{scan_sheet, ScanPrinted}

pub sheet_is : (file text : List ℕ) → text ≡ printed (scan_number [] file) (scan_mesh file) → text ≡ scan_sheet file
unfolding scan_sheet
sheet_is file text e = e

pub short_of_room : (file out : List ℕ) → length out < sheet_room → ScanPrinted file out out (record { number = 9; length = 0 })
unfolding sheet_number short
short_of_room file out h = record { number = rw (lt-ltb (length out) sheet_room h); count = refl; bytes = refl; fits = omega arith }

room_enough : (out : List ℕ) → sheet_room ≤ length out → sheet_number (length out) ≡ 0
unfolding sheet_number short
room_enough out h = rw (le-ltb (length out) sheet_room h)

pub done :
    {file out out' : List ℕ} {n : ℕ} → sheet_room ≤ length out → Sheeted (scan_sheet file) out out' n
    → ScanPrinted file out out' (record { number = 0; length = n })
done {file} {out} room w = record { number = sym (room_enough out room); count = w.length_is; bytes = w.text_is; fits = w.fits }
