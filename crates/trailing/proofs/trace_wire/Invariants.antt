-- What is written and what is still to come is the wire. The measure is how many edges are left.
-- Assumes nothing.
use Rattle.trailing.specs.Trailing.{left_count}
use Rattle.trailing.proofs.Walking.{Walking}
use Rattle.trailing.proofs.trace_wire.Given as goal

abbrev pub invariant-loop-flat : goal.invariant-loop-flat
invariant-loop-flat l = Walking l.starts l.follows l.initial.left l.initial.flat l.first l.at l.left l.flat l.m l.u

abbrev pub decreases-loop-flat : goal.decreases-loop-flat
decreases-loop-flat l = left_count l.left
