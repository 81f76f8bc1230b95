-- The lists of corners and sizes are those of the faces, and each face has its own number. Assumes nothing.
use Rattle.std.proofs.Common.{sym, length-take-le, arith}
use Rattle.folded.proofs.Keeping.{left_all, faces_few}
use Rattle.folded.proofs.keep_all.Goals as goal

pub put-requires-2 : goal.put-requires-2
put-requires-2 c = omega (arith, faces_few _ _ c.requires.fit)

pub slice_bounds-count_up-end : goal.slice_bounds-count_up-end
slice_bounds-count_up-end c = omega (arith, faces_few _ _ c.requires.fit)

pub slice_bounds-count_up-end-2 : goal.slice_bounds-count_up-end-2
slice_bounds-count_up-end-2 c = sym (length-take-le _ _ (omega (arith, faces_few _ _ c.requires.fit)))

pub returns : goal.returns
returns c =
    left_all _ _ _ _ _ _ _ _ c.requires.fit.sound (omega (arith, faces_few _ _ c.requires.fit)) c.put.ensures c.put-2.ensures c.count_up.ensures
