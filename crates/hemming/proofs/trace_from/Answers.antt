-- The order by start, and the wires in it. Assumes nothing.
use Rattle.hemming.proofs.Steps.{rows_left, rows_written}
use Rattle.hemming.proofs.trace_from.Goals as goal

pub trace_all-requires : goal.trace_all-requires
trace_all-requires c =
    rows_left c.requires c.sort_by.ensures

pub returns : goal.returns
returns c =
    rows_written c.requires c.sort_by.ensures c.trace_all.ensures
