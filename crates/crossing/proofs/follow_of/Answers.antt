-- A place that is its own twin is one of a hem edge. Assumes nothing.
use Rattle.crossing.proofs.Follow.{follow_turned, follow_own}
use Rattle.crossing.proofs.follow_of.Goals as goal

pub returns-then-twins-u : goal.returns-then-twins-u
returns-then-twins-u c = follow_turned c.args.after.now c.args.twins.now c.args.u _ c.if-twins-u.true c.turn_from.ensures

pub returns-else-twins-u : goal.returns-else-twins-u
returns-else-twins-u c = follow_own c.args.after.now c.args.twins.now c.args.u c.requires.inside c.if-twins-u.false
