-- What is written and what is still to come are all wires. Assumes nothing.
use Rattle.trailing.proofs.Scanning.{Scanning}
use Rattle.trailing.proofs.trace_all.Given as goal

abbrev pub invariant-loop-u : goal.invariant-loop-u
invariant-loop-u l = Scanning l.starts l.follows l.order l.initial.left l.initial.flat l.initial.lengths l.left l.flat l.lengths l.done.flat l.done.wires l.u-index
