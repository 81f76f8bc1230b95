-- The rows by which a hem turns, and the wires by them, which are the house wires. Assumes nothing.
use Rattle.hemming.proofs.Given.{rows_turnable, rows_traceable, rows_wired}
use Rattle.hemming.proofs.trace.Goals as goal

pub turn-requires : goal.turn-requires
turn-requires c =
    rows_turnable c.requires

pub trace_hems-requires : goal.trace_hems-requires
trace_hems-requires c =
    rows_traceable c.requires c.turn.ensures

pub returns : goal.returns
returns c =
    rows_wired c.requires c.turn.ensures c.trace_hems.ensures
