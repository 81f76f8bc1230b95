use Rattle.std.proofs.Common.{arith, add_assoc}
use Rattle.little.specs.Little.{long, word, half}
use Rattle.little.proofs.long.Goals as goal

pub returns : goal.returns
unfolding long word half
returns c = simp add_assoc (omega arith)
