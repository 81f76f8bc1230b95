-- The number in the middle takes the place of the bound that it is on the side of; side by side, the lower bound is the root. Assumes nothing.
use Rattle.std.proofs.Common.{ℕ, ◌+◌, ◌/◌, arith}
use Rattle.roots.proofs.Halved.{square_few, raised, lowered, within_one_lem}
use Rattle.roots.proofs.root_between.Goals as goal

pub loop-low-init : goal.loop-low-init
loop-low-init c = c.requires

pub overflow_add-low : goal.overflow_add-low
overflow_add-low c = record { fits = omega (arith, c.loop-low.invariant.ordered, c.loop-low.invariant.few) }

pub overflow_add-middle : goal.overflow_add-middle
overflow_add-middle c = record { fits = omega (arith, c.loop-low.invariant.ordered, c.loop-low.invariant.few) }

pub overflow_mul-middle : goal.overflow_mul-middle
overflow_mul-middle c =
    let loop = c.loop-low in
    let middle : ℕ = (loop.low + loop.high) / 2 in
    record { fits = omega (arith, square_few middle (omega (arith, loop.invariant.ordered, loop.invariant.few))) }

pub loop-low-preserved-then-middle-x : goal.loop-low-preserved-then-middle-x
loop-low-preserved-then-middle-x c =
    raised c.args.x c.loop-low.low c.loop-low.high c.loop-low.invariant c.loop-low-test.true c.if-middle-x.true

pub loop-low-preserved : goal.loop-low-preserved
loop-low-preserved c =
    lowered c.args.x c.loop-low.low c.loop-low.high c.loop-low.invariant c.loop-low-test.true (omega (arith, c.if-middle-x.false))

pub returns : goal.returns
returns c = within_one_lem c.args.x c.loop-low.low c.loop-low.high c.loop-low.invariant (omega (arith, c.loop-low-test.false))
