-- What is written to all that stands behind is written behind. Assumes nothing.
use Rattle.std.proofs.Common.{arith}
use Rattle.allfaces.proofs.Behind.{left_corners, left_faces, left_tail}
use Rattle.allfaces.proofs.remove_behind.Goals as goal

pub overflow_add-result : goal.overflow_add-result
overflow_add-result c = omega (arith, left_corners _ _ _ _ _ _ _ _ c.requires.fit c.remove_larger-left.ensures.placed)

pub overflow_add-result-2 : goal.overflow_add-result-2
overflow_add-result-2 c = omega (arith, left_faces _ _ _ _ _ _ _ _ c.requires.fit c.remove_larger-left.ensures.placed)

pub returns : goal.returns
returns c = left_tail _ _ _ _ _ _ _ _ _ _ _ _ c.remove_larger-left.ensures
