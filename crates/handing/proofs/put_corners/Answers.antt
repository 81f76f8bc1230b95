-- `handing::put_corners` meets its contract: one corner more at a time. Assumes nothing.
use mathlib.Core.Path.{refl}
use Rattle.handing.proofs.Bare.{corner_turns}
use Rattle.handing.proofs.put_corners.Goals as goal

pub loop-x-preserved : goal.loop-x-preserved
loop-x-preserved c =
    corner_turns _ _ _ _ _ _ c.loop-x-test.true refl c.put.ensures c.loop-x.invariant
