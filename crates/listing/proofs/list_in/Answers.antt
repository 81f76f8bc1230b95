-- `listing::list_in` meets its contract: the wires stand at the front of the lists, and lengths and panels are those of the rules (`Wiring`).
-- Assumes nothing.
use borrow.Author.Rules.{rules}
use Rattle.listing.proofs.Wiring.{house_room, list_refused, flat_fits, flat_counted, edges_fit, edges_long, measurable, panelled, list_done}
use Rattle.listing.proofs.list_in.Goals as goal

pub house_of-house-requires : goal.house_of-house-requires
house_of-house-requires c = house_room c.requires

pub returns-then-refusal-ne0 : goal.returns-then-refusal-ne0
returns-then-refusal-ne0 c = list_refused c.requires c.house_of-house.ensures c.if-refusal-ne0.true c.refused.ensures

pub slice_bounds-put_lengths-end : goal.slice_bounds-put_lengths-end
slice_bounds-put_lengths-end c = flat_fits c.requires c.house_of-house.ensures c.if-refusal-ne0.false

pub slice_bounds-put_lengths-end-2 : goal.slice_bounds-put_lengths-end-2
slice_bounds-put_lengths-end-2 c = flat_counted c.requires c.house_of-house.ensures c.if-refusal-ne0.false

pub slice_bounds-put_lengths-end-3 : goal.slice_bounds-put_lengths-end-3
slice_bounds-put_lengths-end-3 c = edges_fit c.requires c.house_of-house.ensures c.if-refusal-ne0.false

pub slice_bounds-put_lengths-end-4 : goal.slice_bounds-put_lengths-end-4
slice_bounds-put_lengths-end-4 c = edges_long c.requires c.house_of-house.ensures c.if-refusal-ne0.false

pub put_lengths-requires : goal.put_lengths-requires
put_lengths-requires c = measurable c.requires c.house_of-house.ensures c.if-refusal-ne0.false

pub slice_bounds-put_panels-end : goal.slice_bounds-put_panels-end
slice_bounds-put_panels-end c = flat_fits c.requires c.house_of-house.ensures c.if-refusal-ne0.false

pub slice_bounds-put_panels-end-2 : goal.slice_bounds-put_panels-end-2
slice_bounds-put_panels-end-2 c = flat_counted c.requires c.house_of-house.ensures c.if-refusal-ne0.false

pub slice_bounds-put_panels-end-3 : goal.slice_bounds-put_panels-end-3
slice_bounds-put_panels-end-3 c = edges_fit c.requires c.house_of-house.ensures c.if-refusal-ne0.false

pub slice_bounds-put_panels-end-4 : goal.slice_bounds-put_panels-end-4
slice_bounds-put_panels-end-4 c = edges_long c.requires c.house_of-house.ensures c.if-refusal-ne0.false

pub put_panels-requires : goal.put_panels-requires
put_panels-requires c = panelled c.requires c.house_of-house.ensures c.if-refusal-ne0.false

pub returns : goal.returns
returns c =
    let put-panels = c.put_panels in
    let put-lengths = c.put_lengths in
    list_done c.requires c.house_of-house.ensures c.if-refusal-ne0.false put-lengths.ensures put-panels.ensures
