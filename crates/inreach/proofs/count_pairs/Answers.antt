-- `inreach::count_pairs` meets its contract, by the laws of `Counting` and `Paired`. Assumes nothing.
use mathlib.Core.Path.{◌∙◌}
use Rattle.nearby.specs.Engine.{beside_at}
use Rattle.paired.proofs.Both.{beside_both, beside_self}
use Rattle.paired.proofs.Paired.{same_pairs}
use Rattle.inreach.proofs.Counting.{paired_turns, paired_ends}
use Rattle.inreach.proofs.count_pairs.Goals as goal

pub loop-p-preserved : goal.loop-p-preserved
loop-p-preserved c =
    let pre = c.requires in
    let test = c.loop-p-test in
    let count-behind = c.count_behind-found in
    let loop = c.loop-p in
    paired_turns pre.by_cell.long _ pre.by_cell.points.few test.true count-behind.ensures.0 count-behind.ensures.1 loop.invariant

pub returns : goal.returns
returns c =
    let pre = c.requires in
    let test = c.loop-p-test in
    let loop = c.loop-p in
    let args = c.args in
    paired_ends pre.by_cell.long test.false loop.invariant
    ∙ same_pairs (beside_at args.w args.cells.now) (beside_both args.w args.cells.now) (beside_self args.w args.cells.now) _ _ pre.by_cell.numbers
