-- One corner more, to the last. Assumes nothing.
use Rattle.std.proofs.Common.{arith}
use Rattle.uses.proofs.Facing.{corner_begins, corner_turns, corner_ends}
use Rattle.uses.proofs.put_face.Goals as goal

pub loop-i-init : goal.loop-i-init
loop-i-init c = corner_begins _ _ _ _ _

pub loop-i-preserved : goal.loop-i-preserved
loop-i-preserved c =
    corner_turns c.args.face.now _ _ _ c.args.at _ _ _ _ _ _ c.loop-i.i c.next_of-b.result (omega arith) c.next_of-b.ensures.0 c.put_use.ensures
    c.loop-i.invariant

pub returns : goal.returns
returns c = corner_ends c.args.face.now _ _ _ c.args.at _ _ _ _ (omega arith) c.loop-i.invariant
