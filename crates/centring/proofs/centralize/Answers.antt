-- `centring::centralize` meets its contract, by the laws of `Sending`. Assumes nothing.
use Rattle.together.proofs.Sending.{send_turns}
use Rattle.centring.proofs.centralize.Goals as goal

pub loop-k-preserved : goal.loop-k-preserved
loop-k-preserved c =
    let pre = c.requires in
    let loop = c.loop-k in
    let test = c.loop-k-test in
    send_turns _ _ _ _ _ _ pre.0 _ _ pre.1 _ _ test.true loop.invariant
