-- `round` meets its contract: room first, then the file's length, then the file's own number (`Answering`). Assumes nothing.
use Rattle.roundfile.proofs.Answering.{call_short, call_long, call_opened}
use Rattle.roundfile.proofs.round.Goals as goal

pub returns-then-out-lt-FILE : goal.returns-then-out-lt-FILE
returns-then-out-lt-FILE c = rw c.refused.ensures (call_short _ _ _ _ c.if-out-lt-FILE.true)

pub returns-then-file-gt-FILE : goal.returns-then-file-gt-FILE
returns-then-file-gt-FILE c = rw c.refused-then-file-gt-FILE.ensures (call_long _ _ _ _ c.if-out-lt-FILE.false c.if-file-gt-FILE.true)

pub returns : goal.returns
returns c = call_opened _ _ _ _ c.if-out-lt-FILE.false c.if-file-gt-FILE.false _ _ c.from_file.ensures
