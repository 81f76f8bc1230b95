-- One step more, until the place is that of a hem edge or no step is left. Assumes nothing.
use Rattle.crossing.proofs.Follow.{turn_turns, turn_stays, turn_ends}
use Rattle.crossing.proofs.turn_from.Goals as goal

pub returns-then-twins-place : goal.returns-then-twins-place
returns-then-twins-place c = turn_stays c.args.after.now c.args.twins.now _ c.loop.place c.loop.counter c.if-twins-place.true c.loop.invariant

pub loop-preserved : goal.loop-preserved
loop-preserved c =
    turn_turns c.args.after.now c.args.twins.now _ c.loop.place c.loop.counter _ c.loop-test.true c.if-twins-place.false c.across-place.ensures
    c.loop.invariant

pub returns : goal.returns
returns c = turn_ends c.args.after.now c.args.twins.now _ c.loop.place c.loop.counter c.loop-test.false c.loop.invariant
