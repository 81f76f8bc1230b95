-- The hem places among the first i are kept, and i rises to all of them. Assumes nothing.
use Rattle.hemming.proofs.Kept.{keep_begins, keep_ready, keep_turns}
use Rattle.hemming.proofs.keep_hems.Goals as goal

pub loop-place-init : goal.loop-place-init
loop-place-init c = keep_begins

pub keep_hem-m-requires : goal.keep_hem-m-requires
keep_hem-m-requires c =
    keep_ready c.loop-place.invariant c.requires c.loop-place-test.true

pub loop-place-preserved : goal.loop-place-preserved
loop-place-preserved c =
    keep_turns c.loop-place.invariant c.requires c.loop-place-test.true c.keep_hem-m.ensures
