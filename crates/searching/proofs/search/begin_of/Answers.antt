-- By whether there is a face before. Assumes nothing.
use Rattle.std.proofs.Common.{refl}
use Rattle.connected.proofs.Walking.{begin_zero, begin_suc}
use Rattle.searching.proofs.search.begin_of.Goals as goal

pub returns-then-x-eq0 : goal.returns-then-x-eq0
returns-then-x-eq0 c = begin_zero _ _ c.if-x-eq0.true

pub returns-else-x-eq0 : goal.returns-else-x-eq0
returns-else-x-eq0 c = begin_suc _ _ _ c.if-x-eq0.false refl
