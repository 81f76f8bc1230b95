-- The hem places that are kept, and the wires from them. Assumes nothing.
use Rattle.std.proofs.Common.{sym}
use lib.Seq.{length-take-le}
use Rattle.hemming.proofs.Steps.{hems_fit, hems_sort, rows_begin, rows_traced}
use Rattle.hemming.proofs.trace_hems.Goals as goal

pub slice_bounds-trace_from-end : goal.slice_bounds-trace_from-end
slice_bounds-trace_from-end c =
    hems_fit c.requires c.keep_hems-m.ensures

pub slice_bounds-trace_from-end-2 : goal.slice_bounds-trace_from-end-2
slice_bounds-trace_from-end-2 c =
    sym (length-take-le _ _ (hems_fit c.requires c.keep_hems-m.ensures))

pub slice_bounds-trace_from-end-3 : goal.slice_bounds-trace_from-end-3
slice_bounds-trace_from-end-3 c =
    hems_sort c.requires c.keep_hems-m.ensures

pub slice_bounds-trace_from-end-4 : goal.slice_bounds-trace_from-end-4
slice_bounds-trace_from-end-4 c =
    sym (length-take-le _ _ (hems_sort c.requires c.keep_hems-m.ensures))

pub trace_from-requires : goal.trace_from-requires
trace_from-requires c =
    rows_begin c.requires c.keep_hems-m.ensures

pub returns : goal.returns
returns c =
    rows_traced c.requires c.keep_hems-m.ensures c.trace_from.ensures
