-- `smoothing::smooth_in` meets its contract: what each step asks is there by the laws of proofs/Gathering.antt and proofs/Finishing.antt.
-- Assumes nothing.
use Rattle.std.proofs.Common.{refl, sym, ◌∙◌, arith}
use Rattle.smoothed.specs.Refusals.{lists}
use Rattle.smoothing.proofs.Gathering.{fronts, count_most, lowers_cut, highers_cut, firsts_cut, seconds_cut, wings_cut, countable, counted}
use Rattle.smoothing.proofs.Finishing.{done_refused, sizes_room, writable, done_written}
use Rattle.smoothing.proofs.smooth_in.Goals as goal

-- the fronts of the rows, one for each edge

pub slice_bounds-edges-end : goal.slice_bounds-edges-end
slice_bounds-edges-end c = (lowers_cut _ _ _ _ c.requires.room.long c.number_edges-count.ensures).0

pub slice_bounds-edges-end-2 : goal.slice_bounds-edges-end-2
slice_bounds-edges-end-2 c = (lowers_cut _ _ _ _ c.requires.room.long c.number_edges-count.ensures).1

pub slice_bounds-edges-end-3 : goal.slice_bounds-edges-end-3
slice_bounds-edges-end-3 c = (highers_cut _ _ _ _ c.requires.room.long c.number_edges-count.ensures).0

pub slice_bounds-edges-end-4 : goal.slice_bounds-edges-end-4
slice_bounds-edges-end-4 c = (highers_cut _ _ _ _ c.requires.room.long c.number_edges-count.ensures).1

pub slice_bounds-edges-end-5 : goal.slice_bounds-edges-end-5
slice_bounds-edges-end-5 c = (firsts_cut _ _ _ _ c.requires.room.long c.number_edges-count.ensures).0

pub slice_bounds-edges-end-6 : goal.slice_bounds-edges-end-6
slice_bounds-edges-end-6 c = (firsts_cut _ _ _ _ c.requires.room.long c.number_edges-count.ensures).1

pub slice_bounds-edges-end-7 : goal.slice_bounds-edges-end-7
slice_bounds-edges-end-7 c = (seconds_cut _ _ _ _ c.requires.room.long c.number_edges-count.ensures).0

pub slice_bounds-edges-end-8 : goal.slice_bounds-edges-end-8
slice_bounds-edges-end-8 c = (seconds_cut _ _ _ _ c.requires.room.long c.number_edges-count.ensures).1

pub slice_bounds-edges-end-9 : goal.slice_bounds-edges-end-9
slice_bounds-edges-end-9 c = (wings_cut _ _ _ _ c.requires.room.long c.number_edges-count.ensures).0

pub slice_bounds-edges-end-10 : goal.slice_bounds-edges-end-10
slice_bounds-edges-end-10 c = (wings_cut _ _ _ _ c.requires.room.long c.number_edges-count.ensures).1

pub put_degrees-requires : goal.put_degrees-requires
put_degrees-requires c =
    let found = fronts _ _ _ _ c.requires.room.long c.number_edges-count.ensures in
    countable _ _ _ _ c.requires.checked.triangular c.requires.checked.smoothable found c.args.degrees.now c.requires.room.degrees_long

pub returns-then-number-ne0 : goal.returns-then-number-ne0
returns-then-number-ne0 c =
    let found = fronts _ _ _ _ c.requires.room.long c.number_edges-count.ensures in
    let ds = counted _ _ _ _ c.requires.checked.triangular c.requires.checked.smoothable found c.args.degrees.now _ c.requires.room.degrees_long c.put_degrees.ensures in
    let before = lists c.args.newpositions.now c.args.newcorners.now c.args.newsizes.now in
    done_refused _ _ _ _ _ c.requires.checked _ ds before _ _ c.late_number-number.ensures c.if-number-ne0.true c.refused.ensures

pub write-requires : goal.write-requires
write-requires c =
    let found = fronts _ _ _ _ c.requires.room.long c.number_edges-count.ensures in
    let ds = counted _ _ _ _ c.requires.checked.triangular c.requires.checked.smoothable found c.args.degrees.now _ c.requires.room.degrees_long c.put_degrees.ensures in
    let before = lists c.args.newpositions.now c.args.newcorners.now c.args.newsizes.now in
    let free = sym c.if-number-ne0.false ∙ c.late_number-number.ensures in
    writable _ _ _ _ _ c.requires.checked _ ds before free _ _ found

pub put_sizes-requires : goal.put_sizes-requires
put_sizes-requires c =
    let found = fronts _ _ _ _ c.requires.room.long c.number_edges-count.ensures in
    let ds = counted _ _ _ _ c.requires.checked.triangular c.requires.checked.smoothable found c.args.degrees.now _ c.requires.room.degrees_long c.put_degrees.ensures in
    let before = lists c.args.newpositions.now c.args.newcorners.now c.args.newsizes.now in
    let free = sym c.if-number-ne0.false ∙ c.late_number-number.ensures in
    sizes_room _ _ _ _ _ c.requires.checked _ ds before free

pub overflow_add-result : goal.overflow_add-result
overflow_add-result c =
    let edges = count_most _ _ _ _ c.requires.room.long c.number_edges-count.ensures in
    omega (arith, c.requires.room.degrees_long, c.put_degrees.auto.degrees, c.requires.checked.triangular.entries, c.requires.checked.triangular.few, edges)

pub returns : goal.returns
returns c =
    let found = fronts _ _ _ _ c.requires.room.long c.number_edges-count.ensures in
    let ds = counted _ _ _ _ c.requires.checked.triangular c.requires.checked.smoothable found c.args.degrees.now _ c.requires.room.degrees_long c.put_degrees.ensures in
    let before = lists c.args.newpositions.now c.args.newcorners.now c.args.newsizes.now in
    let free = sym c.if-number-ne0.false ∙ c.late_number-number.ensures in
    done_written _ _ _ _ _ c.requires.checked _ ds before free _ _ _ _ _ c.number_edges-count.ensures.count c.write.ensures c.put_sizes.ensures refl
