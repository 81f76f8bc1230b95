use Rattle.little.proofs.Putting.{to_le_bytes-long}
use Rattle.little.proofs.put_long.Goals as goal

pub returns : goal.returns
returns c = let e = to_le_bytes-long c.args.x in cc
