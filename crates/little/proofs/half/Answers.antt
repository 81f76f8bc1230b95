use Rattle.std.proofs.Common.{arith}
use Rattle.little.specs.Little.{half}
use Rattle.little.proofs.half.Goals as goal

pub returns : goal.returns
unfolding half
returns c = (omega arith, omega arith)
