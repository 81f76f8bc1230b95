-- `found_in` meets its contract: the findings, and the wires at the front of the lists, are what is found in the mesh (`Wiring`).
-- Assumes nothing.
use Rattle.finding.proofs.Wiring.{parts_few, flat_fits, lengths_fit, flat_counted, lengths_counted, lines_ready, found_are, sheeted_as}
use native.Mathlib.Omega.{arith}
use Rattle.finding.proofs.found_in.Goals as goal

pub overflow_cast-found-5 : goal.overflow_cast-found-5
overflow_cast-found-5 c =
    omega (arith, parts_few c.requires c.components_of-parts.ensures)

pub slice_bounds-put_sheet-end : goal.slice_bounds-put_sheet-end
slice_bounds-put_sheet-end c =
    flat_fits c.requires c.components_of-parts.ensures c.house_of-house.ensures

pub slice_bounds-put_sheet-end-2 : goal.slice_bounds-put_sheet-end-2
slice_bounds-put_sheet-end-2 c =
    flat_counted c.requires c.components_of-parts.ensures c.house_of-house.ensures

pub slice_bounds-put_sheet-end-3 : goal.slice_bounds-put_sheet-end-3
slice_bounds-put_sheet-end-3 c =
    lengths_fit c.requires c.components_of-parts.ensures c.house_of-house.ensures

pub slice_bounds-put_sheet-end-4 : goal.slice_bounds-put_sheet-end-4
slice_bounds-put_sheet-end-4 c =
    lengths_counted c.requires c.components_of-parts.ensures c.house_of-house.ensures

pub put_sheet-requires : goal.put_sheet-requires
put_sheet-requires c =
    lines_ready c.requires c.components_of-parts.ensures c.house_of-house.ensures

pub returns : goal.returns
returns c =
    sheeted_as (found_are c.requires c.components_of-parts.ensures c.house_of-house.ensures) c.put_sheet.ensures
