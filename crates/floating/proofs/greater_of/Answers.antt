-- The larger of two numbers, by the test of the rule. Assumes nothing.
use Rattle.floating.specs.Scaling.{greater}
use Rattle.floating.proofs.greater_of.Goals as goal

pub returns-then-a-b : goal.returns-then-a-b
unfolding greater
returns-then-a-b c = simp c.if-a-b.true

pub returns-else-a-b : goal.returns-else-a-b
unfolding greater
returns-else-a-b c = simp c.if-a-b.false
