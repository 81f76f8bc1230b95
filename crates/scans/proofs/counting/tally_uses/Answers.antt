-- One use more, and the edge goes on or ends with it. Assumes nothing.
use Rattle.std.proofs.Common.{◌≡◌, ◌+◌, ap, ◌∙◌, refl, arith}
use Rattle.scans.specs.declared.Tally.{Tally}
use Rattle.scans.proofs.Tallying.{counted_small, step_on, step_closed, tally_turns, tally_ends}
use Rattle.scans.proofs.counting.tally_uses.Goals as goal
use Rattle.scans.proofs.counting.tally_uses.Goals.{then-not-goes_on, else-not-goes_on}

pub close_edge-t-requires : goal.close_edge-t-requires
close_edge-t-requires c =
    let e : c.count_use-t.result.ups + c.count_use-t.result.downs ≡ c.loop-i.t.ups + c.loop-i.t.downs + 1 = ap (λ (z : Tally). z.ups + z.downs)
    c.count_use-t.ensures ∙ counted_small _ c.loop-i.t in omega (arith, c.loop-i.invariant.small)

pub loop-i-preserved : goal.loop-i-preserved
loop-i-preserved c =
    tally_turns c.args.lowers.now c.args.highers.now c.args.downs.now c.args.order.now c.loop-i.t c.if-not-goes_on.t c.loop-i.i c.loop-i-test.true
    (elim c.if-not-goes_on.branch [
      | then-not-goes_on w ↦
          w.t-is ∙ step_closed c.args.lowers.now c.args.highers.now c.args.downs.now c.loop-i.t _ _ _ _ _ refl c.count_use-t.ensures c.goes_on.ensures _
          w.close_edge-t.ensures w.if-not-goes_on.true
      | else-not-goes_on w ↦
          w.t-is ∙ step_on c.args.lowers.now c.args.highers.now c.args.downs.now c.loop-i.t _ _ _ _ _ refl c.count_use-t.ensures c.goes_on.ensures
          w.if-not-goes_on.false
    ])
    c.loop-i.invariant

pub returns : goal.returns
returns c = tally_ends c.args.lowers.now c.args.highers.now c.args.downs.now c.args.order.now _ _ c.loop-i-test.false c.loop-i.invariant
