-- `sheet` meets its contract: its three ways out (`Printing`). Assumes nothing.
use Rattle.sheet.proofs.Printing.{short_of_room, done, long_file, short_file}
use Rattle.sheet.proofs.sheet.Goals as goal

pub returns-then-out-lt-ROOM : goal.returns-then-out-lt-ROOM
returns-then-out-lt-ROOM c = short_of_room _ _ c.if-out-lt-ROOM.true

pub returns-then-file-gt-FILE : goal.returns-then-file-gt-FILE
returns-then-file-gt-FILE c = done c.if-out-lt-ROOM.false (long_file _ c.if-file-gt-FILE.true) c.put_refusal-length.ensures

pub returns : goal.returns
returns c = done c.if-out-lt-ROOM.false (short_file _ c.if-file-gt-FILE.false) c.from_file-length.ensures
