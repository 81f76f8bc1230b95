-- `moved::put_moved` meets its contract, by the laws of `Filling`. Assumes nothing.
use Rattle.std.proofs.Common.{arith}
use Rattle.moved.specs.Rows.{moved_list}
use Rattle.moved.proofs.Filling.{fill_turns, fill_ends}
use Rattle.moved.proofs.put_moved.Goals as goal

pub loop-v-preserved : goal.loop-v-preserved
loop-v-preserved c =
    fill_turns _ _ 0 _ _ _ c.loop-v.v _ _ c.loop-v-test.true (omega arith) c.moved-p.ensures c.put_point.ensures c.loop-v.invariant

pub returns : goal.returns
unfolding moved_list
returns c = fill_ends _ _ 0 _ _ c.loop-v.v c.loop-v-test.false c.loop-v.invariant
