-- The word, the numbers behind it, and the line feed behind both. Assumes nothing.
use Rattle.text.proofs.Putting.{written_line}
use Rattle.text.proofs.put_line.Goals as goal

pub returns : goal.returns
returns c = written_line _ _ _ _ _ _ _ _ c.put_bytes-start.ensures c.put_numbers-end.ensures
