-- What is written and what is still to come are all wires. Assumes nothing.
use Rattle.std.proofs.Common.{refl}
use Rattle.trailing.proofs.Scanning.{scan_ready, scan_turns, scan_ends}
use Rattle.trailing.proofs.trace_all.Goals as goal

pub trace_one-done-requires : goal.trace_one-done-requires
trace_one-done-requires c =
    scan_ready c.requires c.loop-u.invariant c.loop-u-test.true _ refl

pub loop-u-preserved : goal.loop-u-preserved
loop-u-preserved c =
    scan_turns c.requires c.loop-u.invariant c.loop-u-test.true _ refl c.trace_one-done.ensures

pub returns : goal.returns
returns c = scan_ends c.requires c.loop-u.invariant c.loop-u-test.false
