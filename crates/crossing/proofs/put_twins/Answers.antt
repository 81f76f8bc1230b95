-- One use more, to the last. Assumes nothing.
use Rattle.std.proofs.Common.{refl}
use Rattle.crossing.proofs.Twin.{between, pair_begins, pair_turns}
use Rattle.crossing.proofs.put_twins.Goals as goal

pub loop-i-init : goal.loop-i-init
loop-i-init c = pair_begins c.args.lowers.now c.args.highers.now c.args.order.now _

pub twin_at-requires : goal.twin_at-requires
twin_at-requires c =
    between c.args.lowers.now c.args.highers.now c.args.order.now c.loop-i.i c.loop-i.back _ c.loop-i-test.true c.loop-i.invariant.back_is c.goes_on-on.ensures

pub loop-i-preserved : goal.loop-i-preserved
loop-i-preserved c =
    pair_turns c.args.lowers.now c.args.highers.now c.args.order.now _ _ c.loop-i.back _ c.loop-i.i _ _ c.loop-i-test.true refl c.goes_on-on.ensures
    c.twin_at.ensures c.loop-i.invariant
