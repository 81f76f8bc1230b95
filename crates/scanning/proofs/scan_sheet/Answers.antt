-- `scanning::scan_sheet` meets its contract: its two ways out (`Printing`). Assumes nothing.
use Rattle.scanning.proofs.Printing.{short_of_room, done}
use Rattle.scanning.proofs.scan_sheet.Goals as goal

pub returns-then-out-lt-ROOM : goal.returns-then-out-lt-ROOM
returns-then-out-lt-ROOM c = short_of_room _ _ c.if-out-lt-ROOM.true

pub returns : goal.returns
returns c = done c.if-out-lt-ROOM.false c.from_scan-length.ensures
