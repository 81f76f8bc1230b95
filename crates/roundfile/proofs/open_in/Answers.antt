-- `open_in` meets its contract: a refused file is answered by its number; of any other the mesh that is left stands at the front of the lists,
-- and goes on to be smoothed (`Answering`). Assumes nothing.
use Rattle.opening.proofs.Reading.{opened_few}
use Rattle.roundfile.proofs.Answering.{open_refused, open_smoothed}
use native.Mathlib.Omega.{arith}
use Rattle.roundfile.proofs.open_in.Goals as goal

pub open_clean-left-requires : goal.open_clean-left-requires
open_clean-left-requires c = c.requires.lists

pub shape_of-positions-then-number-ne0 : goal.shape_of-positions-then-number-ne0
shape_of-positions-then-number-ne0 c = c.positions-1.given

pub shape_of-textures-then-number-ne0 : goal.shape_of-textures-then-number-ne0
shape_of-textures-then-number-ne0 c = c.textures-1.given

pub shape_of-normals-then-number-ne0 : goal.shape_of-normals-then-number-ne0
shape_of-normals-then-number-ne0 c = c.normals-1.given

pub shape_of-corners-then-number-ne0 : goal.shape_of-corners-then-number-ne0
shape_of-corners-then-number-ne0 c = c.corners-1.given

pub shape_of-sizes-then-number-ne0 : goal.shape_of-sizes-then-number-ne0
shape_of-sizes-then-number-ne0 c = c.sizes-1.given

pub returns-then-number-ne0 : goal.returns-then-number-ne0
returns-then-number-ne0 c = rw c.refused.ensures (open_refused _ _ _ c.open_clean-left.ensures c.if-number-ne0.true)

pub overflow_mul-p : goal.overflow_mul-p
overflow_mul-p c = omega (arith, (opened_few c.open_clean-left.ensures c.if-number-ne0.false).positions)

pub overflow_mul-t : goal.overflow_mul-t
overflow_mul-t c = omega (arith, (opened_few c.open_clean-left.ensures c.if-number-ne0.false).textures)

pub overflow_mul-n : goal.overflow_mul-n
overflow_mul-n c = omega (arith, (opened_few c.open_clean-left.ensures c.if-number-ne0.false).normals)

pub overflow_mul-c : goal.overflow_mul-c
overflow_mul-c c = omega (arith, (opened_few c.open_clean-left.ensures c.if-number-ne0.false).corners)

pub slice_bounds-from_mesh-end : goal.slice_bounds-from_mesh-end
slice_bounds-from_mesh-end c = (c.open_clean-left.ensures.left c.if-number-ne0.false).positions.within

pub slice_bounds-from_mesh-end-2 : goal.slice_bounds-from_mesh-end-2
slice_bounds-from_mesh-end-2 c = (c.open_clean-left.ensures.left c.if-number-ne0.false).positions.long

pub slice_bounds-from_mesh-end-3 : goal.slice_bounds-from_mesh-end-3
slice_bounds-from_mesh-end-3 c = (c.open_clean-left.ensures.left c.if-number-ne0.false).textures.within

pub slice_bounds-from_mesh-end-4 : goal.slice_bounds-from_mesh-end-4
slice_bounds-from_mesh-end-4 c = (c.open_clean-left.ensures.left c.if-number-ne0.false).textures.long

pub slice_bounds-from_mesh-end-5 : goal.slice_bounds-from_mesh-end-5
slice_bounds-from_mesh-end-5 c = (c.open_clean-left.ensures.left c.if-number-ne0.false).normals.within

pub slice_bounds-from_mesh-end-6 : goal.slice_bounds-from_mesh-end-6
slice_bounds-from_mesh-end-6 c = (c.open_clean-left.ensures.left c.if-number-ne0.false).normals.long

pub slice_bounds-from_mesh-end-7 : goal.slice_bounds-from_mesh-end-7
slice_bounds-from_mesh-end-7 c = (c.open_clean-left.ensures.left c.if-number-ne0.false).corners.within

pub slice_bounds-from_mesh-end-8 : goal.slice_bounds-from_mesh-end-8
slice_bounds-from_mesh-end-8 c = (c.open_clean-left.ensures.left c.if-number-ne0.false).corners.long

pub slice_bounds-from_mesh-end-9 : goal.slice_bounds-from_mesh-end-9
slice_bounds-from_mesh-end-9 c = (c.open_clean-left.ensures.left c.if-number-ne0.false).sizes.within

pub slice_bounds-from_mesh-end-10 : goal.slice_bounds-from_mesh-end-10
slice_bounds-from_mesh-end-10 c = (c.open_clean-left.ensures.left c.if-number-ne0.false).sizes.long

pub from_mesh-requires : goal.from_mesh-requires
from_mesh-requires c = c.requires.room

pub shape_of-positions : goal.shape_of-positions
shape_of-positions c = c.positions-1.given

pub shape_of-textures : goal.shape_of-textures
shape_of-textures c = c.textures-1.given

pub shape_of-normals : goal.shape_of-normals
shape_of-normals c = c.normals-1.given

pub shape_of-corners : goal.shape_of-corners
shape_of-corners c = c.corners-1.given

pub shape_of-sizes : goal.shape_of-sizes
shape_of-sizes c = c.sizes-1.given

pub shape_of-out : goal.shape_of-out
shape_of-out c = c.out-1.given

pub returns : goal.returns
returns c = open_smoothed _ _ _ c.open_clean-left.ensures c.if-number-ne0.false c.from_mesh.ensures
