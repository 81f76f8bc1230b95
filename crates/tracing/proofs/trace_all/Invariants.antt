-- What is written and what is still to come are all wires. At one position the edges that are left grow fewer. Assumes nothing.
use Rattle.std.proofs.Common.{length}
use Rattle.tracing.specs.Tables.{left}
use Rattle.tracing.proofs.AllWires.{Gathering}
use Rattle.tracing.proofs.trace_all.Given as goal

abbrev pub invariant-loop-p : goal.invariant-loop-p
invariant-loop-p l = Gathering l.starts l.ends l.nexts l.fn.firsts l.fn.flat l.fn.lengths l.firsts l.flat l.lengths l.done.flat l.done.wires l.p

abbrev pub invariant-loop-firsts : goal.invariant-loop-firsts
invariant-loop-firsts l = Gathering l.starts l.ends l.nexts l.fn.firsts l.fn.flat l.fn.lengths l.firsts l.flat l.lengths l.done.flat l.done.wires l.p

abbrev pub decreases-loop-firsts : goal.decreases-loop-firsts
decreases-loop-firsts l = length (left l.starts l.ends l.firsts)
