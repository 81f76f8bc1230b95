-- The cleaned file fits in its list, so that its front can be written. Assumes nothing.
use Rattle.std.proofs.Common.{sym, arith}
use Rattle.std.proofs.Math.Seq.{length-take-le}
use Rattle.cleanfile.proofs.Promised.{cleaned_fits}
use Rattle.meshclean.proofs.main.Goals as goal

pub slice_bounds-out-end : goal.slice_bounds-out-end
slice_bounds-out-end c = omega (arith, cleaned_fits _ _ _ _ c.clean-answer.ensures)

pub slice_bounds-hand_over-end : goal.slice_bounds-hand_over-end
slice_bounds-hand_over-end c = sym (length-take-le _ _ (omega (arith, cleaned_fits _ _ _ _ c.clean-answer.ensures)))
