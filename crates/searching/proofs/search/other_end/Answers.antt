-- By which of the two faces of its join the entry is. Assumes nothing.
use Rattle.connected.proofs.Walking.{other_even, other_odd}
use Rattle.searching.proofs.search.other_end.Goals as goal

pub returns-then-e-eq0 : goal.returns-then-e-eq0
returns-then-e-eq0 c = other_even _ _ c.if-e-eq0.true

pub returns-else-e-eq0 : goal.returns-else-e-eq0
returns-else-e-eq0 c = other_odd _ _ c.if-e-eq0.false
