-- `centring::centralize_groups` meets its contract, by the laws of `Settling`. Assumes nothing.
use Rattle.together.proofs.Settling.{settle_begins, settle_turns, settle_ends}
use Rattle.centring.proofs.centralize_groups.Goals as goal

pub loop-k-init : goal.loop-k-init
loop-k-init c = settle_begins _ _ _ _ _ _ _

pub loop-k-preserved : goal.loop-k-preserved
loop-k-preserved c =
    let pre = c.requires in
    let loop = c.loop-k in
    let test = c.loop-k-test in
    let centralize = c.centralize in
    settle_turns pre.0 loop.invariant test.true centralize.ensures

pub returns : goal.returns
returns c = settle_ends c.requires.0 c.loop-k.invariant c.loop-k-test.false
