-- `centring::representative` meets its contract, by the laws of `Centres`. Assumes nothing.
use Rattle.together.proofs.Centres.{choose_begins, choose_closer, choose_not, choose_ends}
use Rattle.centring.proofs.representative.Goals.{then-d-least, else-d-least}
use Rattle.centring.proofs.representative.Goals as goal

pub loop-k-init : goal.loop-k-init
loop-k-init c =
    let pre = c.requires in
    let group-centre = c.group_centre-c in
    let attr-at = c.attr_at in
    let distance2 = c.distance2-least in
    choose_begins _ _ _ _ _ _ pre _ group-centre.ensures _ attr-at.result attr-at.ensures distance2.ensures

pub loop-k-preserved : goal.loop-k-preserved
loop-k-preserved c =
    let pre = c.requires in
    let group-centre = c.group_centre-c in
    let loop = c.loop-k in
    let test = c.loop-k-test in
    let attr-at2 = c.attr_at-in-loop-k in
    let distance22 = c.distance2-d in
    let if1 = c.if-d-least in
    elim if1.branch [
      | then-d-least v ↦
          choose_closer _ _ _ _ _ _ pre _ group-centre.ensures loop.k _ _ test.true _ attr-at2.result attr-at2.ensures
          distance22.ensures loop.invariant _ _ v.if-d-least.true v.least-is v.rep-is
      | else-d-least v ↦
          choose_not _ _ _ _ _ _ pre _ group-centre.ensures loop.k _ _ test.true _ attr-at2.result attr-at2.ensures
          distance22.ensures loop.invariant _ _ v.if-d-least.false v.least-is v.rep-is
    ]

pub returns : goal.returns
returns c =
    let args = c.args in
    let pre = c.requires in
    let group-centre = c.group_centre-c in
    let loop = c.loop-k in
    let test = c.loop-k-test in
    (choose_ends _ _ args.s.now args.order.now _ _ pre _ group-centre.ensures loop.k _ _ test.false loop.invariant, loop.invariant.small)
