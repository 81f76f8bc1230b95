-- The wire is what `trace_wire` ensures, and its length a small number. Assumes nothing.
use Rattle.std.proofs.Common.{arith}
use Rattle.tracing.proofs.AllWires.{wire_small}
use Rattle.tracing.proofs.trace_one.Goals as goal

pub overflow_cast-lengths : goal.overflow_cast-lengths
overflow_cast-lengths c =
    omega (arith, c.trace_wire-end.ensures.end_is, wire_small c.requires.begun.stands c.args.p c.args.p)
