-- The sum of the squares, at a width that is 2 and at one that is 3. Assumes nothing.
use Rattle.floating.proofs.Rows.{three, squared_two, squared_three}
use Rattle.floating.proofs.distance2.Goals as goal

pub returns-then-w-eq2 : goal.returns-then-w-eq2
returns-then-w-eq2 c = squared_two _ c.args.p c.args.q c.if-w-eq2.true

pub returns : goal.returns
returns c = squared_three _ c.args.p c.args.q (three _ c.if-w-eq2.false c.requires.0 c.requires.1)
