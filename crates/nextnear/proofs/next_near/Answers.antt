-- `nextnear::next_near` meets its contract, by the laws of `Looking`. Assumes nothing.
use Rattle.inreach.proofs.Runs.{run_of}
use Rattle.nextnear.proofs.Looking.{looked_begins, looked_none, looked_ends}
use Rattle.nextnear.proofs.next_near.Goals as goal

pub loop-q-init : goal.loop-q-init
loop-q-init c =
    let pre = c.requires in
    let args = c.args in
    let entry = c.entry-q in
    looked_begins pre.0 args.t args.seen.now args.i args.low args.from pre.1 entry.ensures

pub best_in_run-best-requires : goal.best_in_run-best-requires
best_in_run-best-requires c =
    let pre = c.requires in
    let test = c.loop-q-test in
    let skip = c.skip-r in
    let if1 = c.if-r-q in
    let entry2 = c.entry-end in
    (pre.0.listed, pre.3, pre.1, run_of pre.0.tables pre.1 test.true (skip.ensures.here if1.true) entry2.ensures)

pub loop-q-preserved : goal.loop-q-preserved
loop-q-preserved c =
    let pre = c.requires in
    let args = c.args in
    let skip = c.skip-r in
    let loop = c.loop-q in
    looked_none pre.0 args.t args.seen.now args.i args.low args.from pre.1 _ skip.ensures loop.invariant

pub returns : goal.returns
returns c =
    let pre = c.requires in
    let args = c.args in
    let test = c.loop-q-test in
    let loop = c.loop-q in
    looked_ends pre.0 args.t args.seen.now args.i args.low args.from pre.1 pre.2 test.false loop.invariant
