-- One point more is looked at. Assumes nothing.
use Rattle.std.proofs.Common.{sym, ◌∙◌}
use Rattle.nearby.proofs.Counting.{counted_none, counted_one, counted_not}
use Rattle.nearby.proofs.count_with.Goals as goal
use Rattle.nearby.proofs.count_with.Goals.{then-is_beside_at, else-is_beside_at}

pub loop-i-init : goal.loop-i-init
loop-i-init c = counted_none _ _

pub loop-i-preserved : goal.loop-i-preserved
loop-i-preserved c =
    elim c.if-is_beside_at.branch [
      | then-is_beside_at w ↦ rw w.found-is (counted_one _ _ _ _ c.loop-i-test.true (sym c.is_beside_at.ensures ∙ w.if-is_beside_at.true) c.loop-i.invariant)
      | else-is_beside_at w ↦ rw w.found-is (counted_not _ _ _ _ c.loop-i-test.true (sym c.is_beside_at.ensures ∙ w.if-is_beside_at.false) c.loop-i.invariant)
    ]
