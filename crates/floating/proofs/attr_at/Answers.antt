-- A point's row, at a width that is 2 and at one that is 3. Assumes nothing.
use Rattle.floating.proofs.Rows.{three, attr_two, attr_three}
use Rattle.floating.proofs.attr_at.Goals as goal

pub returns-then-w-eq2 : goal.returns-then-w-eq2
returns-then-w-eq2 c = attr_two _ _ _ _ c.if-w-eq2.true c.requires.2

pub returns-else-w-eq2 : goal.returns-else-w-eq2
returns-else-w-eq2 c = attr_three _ _ _ (three _ c.if-w-eq2.false c.requires.0 c.requires.1) c.requires.2
