-- `smoothable::mark_used` meets its contract: corner by corner. Assumes nothing.
use Rattle.std.proofs.Common.{refl}
use Rattle.smoothable.proofs.Marking.{marking_turns, marking_ends}
use Rattle.smoothable.proofs.mark_used.Goals as goal

pub loop-k-preserved : goal.loop-k-preserved
loop-k-preserved c = marking_turns _ _ _ _ _ c.requires refl c.loop-k-test.true c.loop-k.invariant

pub returns : goal.returns
returns c = marking_ends _ _ _ _ c.loop-k-test.false c.loop-k.invariant
