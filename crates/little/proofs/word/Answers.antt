use Rattle.std.proofs.Common.{arith, add_assoc}
use Rattle.little.specs.Little.{word, half}
use Rattle.little.proofs.word.Goals as goal

pub returns : goal.returns
unfolding word half
returns c = simp add_assoc (omega arith)
