-- `moved::put_middles` meets its contract, by the laws of `Filling`. Assumes nothing.
use Rattle.std.proofs.Common.{refl}
use Rattle.moved.specs.Rows.{middle_list}
use Rattle.moved.proofs.Filling.{fill_turns, fill_ends}
use Rattle.moved.proofs.put_middles.Goals as goal

pub loop-e-preserved : goal.loop-e-preserved
loop-e-preserved c =
    fill_turns _ _ _ _ _ _ c.loop-e.e _ _ c.loop-e-test.true refl c.middle-p.ensures c.put_point.ensures c.loop-e.invariant

pub returns : goal.returns
unfolding middle_list
returns c = fill_ends _ _ _ _ _ c.loop-e.e c.loop-e-test.false c.loop-e.invariant
