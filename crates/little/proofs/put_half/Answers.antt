use Rattle.little.proofs.Putting.{to_le_bytes-half}
use Rattle.little.proofs.put_half.Goals as goal

pub returns : goal.returns
returns c = let e = to_le_bytes-half c.args.x in cc
