-- What was passed and what is still to come is the whole wire. The measure is the length of what is to come. Assumes nothing.
use Rattle.std.proofs.Common.{length}
use Rattle.tracing.specs.Tables.{left}
use Rattle.tracing.specs.Tracing.{trace}
use Rattle.tracing.proofs.Following.{Following}
use Rattle.tracing.proofs.trace_wire.Given as goal

abbrev pub invariant-loop-c : goal.invariant-loop-c
invariant-loop-c l = Following l.starts l.ends l.nexts l.initial.firsts l.first l.initial.flat l.at l.firsts l.flat l.m l.c

abbrev pub decreases-loop-c : goal.decreases-loop-c
decreases-loop-c l = length (trace l.first l.c (left l.starts l.ends l.firsts)).0
