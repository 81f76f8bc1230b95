-- What was passed and what is still to come is the whole wire. The measure is the length of what is to come. Assumes nothing.
use Rattle.tracing.proofs.Following.{follow_begins, follow_turns, follow_less, follow_ends}
use Rattle.tracing.proofs.trace_wire.Goals as goal

pub loop-c-init : goal.loop-c-init
loop-c-init c = follow_begins _ _ _ _ _ _ _ c.requires

pub returns-then-c-first : goal.returns-then-c-first
returns-then-c-first c =
    follow_ends c.loop-c.invariant c.onward_from-c.ensures c.onward_from-c.auto.firsts c.if-c-first.true

pub loop-c-smaller : goal.loop-c-smaller
loop-c-smaller c =
    follow_less c.loop-c.invariant c.onward_from-c.ensures c.onward_from-c.auto.firsts c.if-c-first.false

pub loop-c-preserved : goal.loop-c-preserved
loop-c-preserved c =
    follow_turns c.loop-c.invariant c.onward_from-c.ensures c.onward_from-c.auto.firsts c.if-c-first.false
