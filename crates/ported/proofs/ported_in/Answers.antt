-- The table of last edges is what the tracer is given, and its wires are the ported wires. Assumes nothing.
use Rattle.ported.proofs.PortedTables.{ported_startable, ported_left, ported_traced}
use Rattle.tracing.proofs.BlankTables.{written_as}
use Rattle.ported.proofs.ported_in.Goals as goal

pub keep_last-requires : goal.keep_last-requires
keep_last-requires c = ported_startable c.requires

pub trace_all-requires : goal.trace_all-requires
trace_all-requires c =
    ported_left (c.requires) c.keep_last.ensures

pub returns : goal.returns
returns c =
    written_as (ported_traced (c.requires) c.keep_last.ensures) c.trace_all.ensures
