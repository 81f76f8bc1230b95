-- one bound, then the other
use Rattle.smoothable.proofs.Tests.{within_one_above, within_one_below}
use Rattle.smoothable.proofs.is_within_one.Goals as goal

pub returns-then-c : goal.returns-then-c
returns-then-c c = within_one_above _ c.if-c.true

pub returns-else-c : goal.returns-else-c
returns-else-c c = within_one_below _ c.if-c.false
