-- `inreach::count_behind` meets its contract, by the laws of `Counting`. Assumes nothing.
use Rattle.inreach.proofs.Counting.{behind_skips, behind_takes, behind_ends}
use Rattle.inreach.proofs.Runs.{run_of}
use native.Mathlib.Omega.{arith}
use Rattle.inreach.proofs.count_behind.Goals as goal

pub loop-q-preserved-then-r-q : goal.loop-q-preserved-then-r-q
loop-q-preserved-then-r-q c =
    let args = c.args in
    let pre = c.requires in
    let entry = c.entry-i in
    let test = c.loop-q-test in
    let skip = c.skip-r in
    let if1 = c.if-r-q in
    let entry2 = c.entry-end in
    let loop = c.loop-q in
    behind_takes args.w args.cells.now pre.0.by_cell.long entry.ensures _
    (run_of pre.0 (omega (arith, entry.ensures, pre.0.by_cell.below _ pre.1)) test.true (skip.ensures.here if1.true) entry2.ensures)
    loop.invariant

pub loop-q-preserved : goal.loop-q-preserved
loop-q-preserved c =
    let args = c.args in
    let pre = c.requires in
    let entry = c.entry-i in
    let skip = c.skip-r in
    let loop = c.loop-q in
    behind_skips args.w args.cells.now pre.0.by_cell.long entry.ensures _ skip.ensures loop.invariant

pub returns : goal.returns
returns c =
    let pre = c.requires in
    let test = c.loop-q-test in
    let loop = c.loop-q in
    behind_ends pre.0.by_cell.long test.false loop.invariant
