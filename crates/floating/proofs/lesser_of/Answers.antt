-- The smaller of two numbers, by the test of the rule. Assumes nothing.
use Rattle.floating.specs.Scaling.{lesser}
use Rattle.floating.proofs.lesser_of.Goals as goal

pub returns-then-b-a : goal.returns-then-b-a
unfolding lesser
returns-then-b-a c = simp c.if-b-a.true

pub returns-else-b-a : goal.returns-else-b-a
unfolding lesser
returns-else-b-a c = simp c.if-b-a.false
