-- `merging::send_corners` meets its contract, by the laws of `Corners`. Assumes nothing.
use mathlib.Core.Path.{refl}
use Rattle.together.proofs.Corners.{write_turns, write_ends}
use Rattle.merging.proofs.send_corners.Goals as goal

pub loop-k-preserved : goal.loop-k-preserved
loop-k-preserved c =
    let args = c.args in
    let loop = c.loop-k in
    let test = c.loop-k-test in
    let sent = c.sent in
    let sent2 = c.sent-in-loop-k in
    write_turns args.corners.now args.pmap.now args.tmap.now args.nmap.now _ loop.out loop.k test.true loop.invariant _ _ _ _ refl
    sent.ensures sent2.ensures refl

pub returns : goal.returns
returns c =
    let args = c.args in
    let loop = c.loop-k in
    let test = c.loop-k-test in
    write_ends args.corners.now args.pmap.now args.tmap.now args.nmap.now _ _ loop.k test.false loop.invariant
