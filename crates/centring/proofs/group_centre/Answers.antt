-- `centring::group_centre` meets its contract, by the laws of `Centres`. Assumes nothing.
use Rattle.together.proofs.Centres.{sum_begins, sum_turns, sum_ends}
use Rattle.centring.proofs.group_centre.Goals as goal

pub loop-k-init : goal.loop-k-init
loop-k-init c = sum_begins _ _ _ _ _ _ c.requires

pub loop-k-preserved : goal.loop-k-preserved
loop-k-preserved c =
    let pre = c.requires in
    let loop = c.loop-k in
    let test = c.loop-k-test in
    let attr-at = c.attr_at in
    let plus = c.plus-sum in
    sum_turns _ _ _ _ _ _ pre loop.k _ _ _ test.true attr-at.ensures plus.ensures loop.invariant

pub returns : goal.returns
returns c =
    let args = c.args in
    let pre = c.requires in
    let loop = c.loop-k in
    let test = c.loop-k-test in
    let nearest-u64-to-f64 = c.nearest_u64_to_f64 in
    let over = c.over in
    sum_ends _ _ args.s.now args.order.now _ _ pre loop.k _ _ _ test.false nearest-u64-to-f64.ensures over.ensures loop.invariant
