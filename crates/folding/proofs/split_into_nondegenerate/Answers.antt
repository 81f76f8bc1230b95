-- The pieces are written place by place, and their corners then at these places. Assumes nothing.
use Rattle.std.proofs.Common.{sym, length-take-le, arith}
use Rattle.folding.proofs.Faces.{few, copied, with_places}
use Rattle.folding.proofs.split_into_nondegenerate.Goals as goal

pub slice_bounds-put_places-end : goal.slice_bounds-put_places-end
slice_bounds-put_places-end c = omega (arith, few _ _ _ _ _ _ _ c.requires _ _ _ _ _ c.split_ring-left.ensures)

pub slice_bounds-put_places-end-2 : goal.slice_bounds-put_places-end-2
slice_bounds-put_places-end-2 c = sym (length-take-le _ _ (omega (arith, few _ _ _ _ _ _ _ c.requires _ _ _ _ _ c.split_ring-left.ensures)))

pub put_places-requires : goal.put_places-requires
put_places-requires c = copied _ _ _ _ _ _ _ c.requires _ _ _ _ _ c.split_ring-left.ensures

pub overflow_add-result : goal.overflow_add-result
overflow_add-result c = omega (arith, few _ _ _ _ _ _ _ c.requires _ _ _ _ _ c.split_ring-left.ensures)

pub returns : goal.returns
returns c = with_places _ _ _ _ _ _ _ c.requires _ _ _ _ _ c.split_ring-left.ensures _ c.put_places.ensures
