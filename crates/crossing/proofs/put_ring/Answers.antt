-- One place more, to the last. Assumes nothing.
use Rattle.std.proofs.Common.{length, ◌+◌, ap, refl, arith}
use Rattle.crossing.proofs.After.{ring_turns, ring_ends}
use Rattle.crossing.proofs.put_ring.Goals as goal

pub loop-i-preserved : goal.loop-i-preserved
loop-i-preserved c =
    ring_turns c.args.at (length c.args.ring.now) _ _ c.loop-i.i _ (omega (arith, c.loop-i.invariant.long)) (ap (λ x. c.args.at + x) c.next_of.ensures.0)
    c.loop-i.invariant

pub returns : goal.returns
returns c = ring_ends c.args.at (length c.args.ring.now) _ _ c.loop-i.i refl (omega (arith, c.loop-i.invariant.long)) c.loop-i.invariant
