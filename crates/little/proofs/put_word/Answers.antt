use Rattle.little.proofs.Putting.{to_le_bytes-word}
use Rattle.little.proofs.put_word.Goals as goal

pub returns : goal.returns
returns c = let e = to_le_bytes-word c.args.x in cc
