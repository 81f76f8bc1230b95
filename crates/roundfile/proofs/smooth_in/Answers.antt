-- `smooth_in` meets its contract: what smoothing refuses is answered by its number; of anything else the result stands at the front of the
-- lists, and the writer refuses it for nothing but a coordinate that is not finite (`Smooth`). Assumes nothing.
use Rattle.roundfile.proofs.Smooth.{smooth_refused, positions_front, corners_front, sizes_front, positions_small, corners_small, smooth_written}
use native.Mathlib.Omega.{arith}
use Rattle.roundfile.proofs.smooth_in.Goals as goal

pub returns-then-number-ne0 : goal.returns-then-number-ne0
returns-then-number-ne0 c = rw c.refused.ensures (smooth_refused c.requires c.loop_subdivision-smooth.ensures c.if-number-ne0.true)

pub overflow_mul-p : goal.overflow_mul-p
overflow_mul-p c = omega (arith, positions_small c.requires c.loop_subdivision-smooth.ensures c.if-number-ne0.false)

pub overflow_mul-c : goal.overflow_mul-c
overflow_mul-c c = omega (arith, corners_small c.requires c.loop_subdivision-smooth.ensures c.if-number-ne0.false)

pub slice_bounds-write_panel-end : goal.slice_bounds-write_panel-end
slice_bounds-write_panel-end c = (positions_front c.requires c.loop_subdivision-smooth.ensures c.if-number-ne0.false).within

pub slice_bounds-write_panel-end-2 : goal.slice_bounds-write_panel-end-2
slice_bounds-write_panel-end-2 c = (positions_front c.requires c.loop_subdivision-smooth.ensures c.if-number-ne0.false).long

pub slice_bounds-write_panel-end-3 : goal.slice_bounds-write_panel-end-3
slice_bounds-write_panel-end-3 c = (corners_front c.requires c.loop_subdivision-smooth.ensures c.if-number-ne0.false).within

pub slice_bounds-write_panel-end-4 : goal.slice_bounds-write_panel-end-4
slice_bounds-write_panel-end-4 c = (corners_front c.requires c.loop_subdivision-smooth.ensures c.if-number-ne0.false).long

pub slice_bounds-write_panel-end-5 : goal.slice_bounds-write_panel-end-5
slice_bounds-write_panel-end-5 c = (sizes_front c.requires c.loop_subdivision-smooth.ensures c.if-number-ne0.false).within

pub slice_bounds-write_panel-end-6 : goal.slice_bounds-write_panel-end-6
slice_bounds-write_panel-end-6 c = (sizes_front c.requires c.loop_subdivision-smooth.ensures c.if-number-ne0.false).long

pub returns : goal.returns
returns c = smooth_written c.requires c.loop_subdivision-smooth.ensures c.if-number-ne0.false c.write_panel-saved.ensures
