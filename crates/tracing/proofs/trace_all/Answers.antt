-- One wire more while an edge is left at a position, and then the next position, to the last. Assumes nothing.
use Rattle.std.proofs.Common.{arith}
use Rattle.tracing.proofs.AllWires.{gather_ready, gather_less, gather_turns, gather_ends}
use Rattle.tracing.proofs.trace_all.Goals as goal

pub trace_one-done-requires : goal.trace_one-done-requires
trace_one-done-requires c = gather_ready c.loop-firsts.invariant (omega arith) c.loop-firsts-test.true

pub loop-firsts-smaller : goal.loop-firsts-smaller
loop-firsts-smaller c =
    gather_less c.loop-firsts.invariant (omega arith) c.loop-firsts-test.true c.trace_one-done.ensures c.trace_one-done.auto.firsts

pub loop-firsts-preserved : goal.loop-firsts-preserved
loop-firsts-preserved c =
    gather_turns c.loop-firsts.invariant (omega arith) c.loop-firsts-test.true c.trace_one-done.ensures c.trace_one-done.auto.firsts

pub returns : goal.returns
returns c = gather_ends c.loop-p.invariant (omega arith)
