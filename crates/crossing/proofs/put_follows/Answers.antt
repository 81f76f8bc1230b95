-- One place more, to the last. Assumes nothing.
use Rattle.std.proofs.Common.{arith}
use Rattle.crossing.proofs.Follow.{follow_turns, follow_ends}
use Rattle.crossing.proofs.put_follows.Goals as goal

pub loop-u-preserved : goal.loop-u-preserved
loop-u-preserved c =
    follow_turns c.args.after.now c.args.twins.now _ _ c.loop-u.u _ (omega (arith, c.loop-u.invariant.long, c.requires.room)) c.follow_of.ensures
    c.loop-u.invariant

pub returns : goal.returns
returns c =
    follow_ends c.args.after.now c.args.twins.now _ _ c.loop-u.u c.requires.room (omega (arith, c.loop-u.invariant.long, c.requires.room)) c.loop-u.invariant
