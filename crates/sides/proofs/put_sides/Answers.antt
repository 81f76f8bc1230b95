-- `sides::put_sides` meets its contract: after k faces the columns of their uses are written. Assumes nothing.
use Rattle.sides.proofs.Columns.{fill_turns, fill_ends}
use Rattle.sides.proofs.put_sides.Goals as goal

pub loop-k-preserved : goal.loop-k-preserved
loop-k-preserved c =
    fill_turns _ _ _ _ c.requires _ _ _ _ c.loop-k.invariant _ _ _ c.loop-k-test.true c.put_face.ensures

pub returns : goal.returns
returns c = fill_ends _ _ _ _ c.requires _ _ _ _ c.loop-k.invariant c.loop-k-test.false
