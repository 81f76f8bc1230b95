-- The rounded file fits in its list, so that its front can be written. Assumes nothing.
use Rattle.std.proofs.Common.{sym}
use Rattle.std.proofs.Math.Seq.{length-take-le}
use Rattle.roundfile.proofs.Promised.{rounded_front}
use Rattle.meshround.proofs.main.Goals as goal

pub slice_bounds-out-end : goal.slice_bounds-out-end
slice_bounds-out-end c = rounded_front _ _ _ _ _ _ c.round-answer.ensures

pub slice_bounds-hand_over-end : goal.slice_bounds-hand_over-end
slice_bounds-hand_over-end c = sym (length-take-le _ _ (rounded_front _ _ _ _ _ _ c.round-answer.ensures))
