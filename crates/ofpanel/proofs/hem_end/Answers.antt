-- `ofpanel::hem_end` meets its contract: the lower or the higher of the first two positions. Assumes nothing.
use Rattle.ofpanel.proofs.Entries.{end_up, end_down}
use Rattle.ofpanel.proofs.hem_end.Goals as goal

pub returns-then-a-b : goal.returns-then-a-b
returns-then-a-b c = end_up _ _ c.requires _ _ c.next_of.ensures.0 c.if-a-b.true c.pick.ensures

pub returns-else-a-b : goal.returns-else-a-b
returns-else-a-b c = end_down _ _ c.requires _ _ c.next_of.ensures.0 c.if-a-b.false c.pick-else-a-b.ensures
