-- A turn takes one index of one corner in. Assumes nothing.
use Rattle.std.proofs.Common.{arith}
use Rattle.compaction.proofs.Loop.{going_begins, going_before, going_turns, going_ends, column_few}
use Rattle.compaction.proofs.compact_column.Goals as goal

pub loop-k-init : goal.loop-k-init
loop-k-init c = going_begins _ _ _ _ _ _

pub take_in-used-requires : goal.take_in-used-requires
take_in-used-requires c = going_before c.loop-k.invariant c.requires (omega arith)

pub loop-k-preserved : goal.loop-k-preserved
loop-k-preserved c = going_turns c.loop-k.invariant _ _ _ _ (omega arith) c.take_in-used.ensures

pub overflow_cast-result : goal.overflow_cast-result
overflow_cast-result c = omega (arith, column_few c.loop-k.invariant.one c.requires.pointed)

pub returns : goal.returns
returns c = going_ends c.loop-k.invariant (omega arith)
