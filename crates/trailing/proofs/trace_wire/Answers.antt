-- What is written and what is still to come is the wire. The measure is how many edges are left.
-- Assumes nothing.
use Rattle.std.proofs.Common.{refl, sym, ◌∙◌}
use Rattle.trailing.proofs.Walking.{walk_room, walk_turns, walk_less, walk_ends}
use Rattle.trailing.proofs.trace_wire.Goals as goal

pub bounds-flat-m : goal.bounds-flat-m
bounds-flat-m c =
    walk_room c.requires c.loop-flat.invariant (sym c.is_left.ensures ∙ c.loop-flat-test.true)

pub loop-flat-smaller : goal.loop-flat-smaller
loop-flat-smaller c =
    walk_less c.requires c.loop-flat.invariant (sym c.is_left.ensures ∙ c.loop-flat-test.true)

pub loop-flat-preserved : goal.loop-flat-preserved
loop-flat-preserved c =
    walk_turns c.requires c.loop-flat.invariant (sym c.is_left.ensures ∙ c.loop-flat-test.true) _ refl

pub returns : goal.returns
returns c =
    walk_ends c.requires c.loop-flat.invariant (sym c.is_left.ensures ∙ c.loop-flat-test.false)
