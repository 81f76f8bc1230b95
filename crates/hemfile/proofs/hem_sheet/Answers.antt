-- `hem_sheet` meets its contract: its two ways out (`Printing`). Assumes nothing.
use Rattle.hemfile.proofs.Printing.{short_of_room, done}
use Rattle.hemfile.proofs.hem_sheet.Goals as goal

pub returns-then-out-lt-ROOM : goal.returns-then-out-lt-ROOM
returns-then-out-lt-ROOM c = short_of_room _ _ c.if-out-lt-ROOM.true

pub returns : goal.returns
returns c = done c.if-out-lt-ROOM.false c.put_file-length.ensures
