-- The use behind is there, or there is none. Assumes nothing.
use Rattle.std.proofs.Common.{◌∙◌, refl}
use Rattle.uses.proofs.Reading.{next_there, next_none}
use Rattle.uses.proofs.goes_on.Goals as goal

pub returns-in-Some : goal.returns-in-Some
returns-in-Some c =
    let at = c.in-Some.ensures.lookup.3 in
    c.same_edge.ensures ∙ next_there c.args.lowers.now c.args.highers.now c.args.order.now c.args.i _ _ at.0 refl (at.1 0)

pub returns-in-None : goal.returns-in-None
returns-in-None c = next_none c.args.lowers.now c.args.highers.now c.args.order.now c.args.i c.in-None.ensures.lookup.3
