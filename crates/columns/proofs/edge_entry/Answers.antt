-- The corner with the lower position comes first, and with equal positions the second.
-- Assumes nothing.
use Rattle.columns.proofs.Using.{entry_up, entry_down}
use Rattle.columns.proofs.edge_entry.Goals as goal

pub returns-then-p-q : goal.returns-then-p-q
returns-then-p-q c =
    entry_up _ _ _ _ _ _ _ _ _ c.next_of-b.ensures.0 c.if-p-q.true c.normal_digit-n.ensures c.normal_digit-m.ensures c.choose.ensures

pub returns-else-p-q : goal.returns-else-p-q
returns-else-p-q c =
    entry_down _ _ _ _ _ _ _ _ _ c.next_of-b.ensures.0 c.if-p-q.false c.normal_digit-n.ensures c.normal_digit-m.ensures c.choose-else-p-q.ensures
