-- `records::put_ring` meets its contract: of the n corners the first k are written, and k rises to all of them. Assumes nothing.
use Rattle.records.proofs.Ringing.{ringing_turns}
use Rattle.records.proofs.put_ring.Goals as goal

pub loop-k-preserved : goal.loop-k-preserved
loop-k-preserved c = ringing_turns _ _ _ _ _ _ _ _ _ _ c.loop-k-test.true c.corner_place-from.ensures c.put_corner.ensures c.loop-k.invariant
