-- The pairs with one point more. Assumes nothing.
use Rattle.nearby.proofs.Counting.{paired_none, paired_more}
use Rattle.nearby.proofs.count_pairs.Goals as goal

pub loop-j-init : goal.loop-j-init
loop-j-init c = paired_none _ _

pub loop-j-preserved : goal.loop-j-preserved
loop-j-preserved c = paired_more _ _ _ _ _ c.requires.few c.loop-j-test.true c.count_with-found.ensures.0 c.loop-j.invariant
