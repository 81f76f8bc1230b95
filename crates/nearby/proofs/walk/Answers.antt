-- A point has its group already, or one is walked from it. Assumes nothing.
use Rattle.std.proofs.Common.{◌<◌, arith}
use Rattle.nearby.proofs.Gathering.{gather_begins, gather_old, found_in, gather_ends}
use Rattle.nearby.proofs.NewGroup.{gather_new}
use Rattle.nearby.proofs.walk.Goals as goal
use Rattle.nearby.proofs.walk.Goals.{then-not-seen-k, else-not-seen-k}

pub loop-k-init : goal.loop-k-init
loop-k-init g c = gather_begins _ _ _ _ c.requires.0 c.requires.1.order_room

pub bounds-ends-count : goal.bounds-ends-count
bounds-ends-count g c =
    omega (arith, found_in c.loop-k.invariant (rw c.count-k-end.ensures at c.loop-k-test.true) c.if-not-seen-k.true, c.requires.1.ends_room, c.loop-k.auto.ends)

pub loop-k-preserved : goal.loop-k-preserved
loop-k-preserved g c =
    let i : c.loop-k.k < g.N.Neighbours.count c.args.points.now = rw c.count-k-end.ensures at c.loop-k-test.true in
    elim c.if-not-seen-k.branch [
      | then-not-seen-k w ↦ rw (w.order-is, w.ends-is, w.seen-is, w.taken-is, w.count-is)
          (gather_new c.loop-k.invariant i w.if-not-seen-k.true
          (omega (arith, found_in c.loop-k.invariant i w.if-not-seen-k.true, c.requires.1.ends_room, c.loop-k.auto.ends)) w.create_component-taken.ensures)
      | else-not-seen-k w ↦ rw (w.order-is, w.ends-is, w.seen-is, w.taken-is, w.count-is) (gather_old c.loop-k.invariant i w.if-not-seen-k.false)
    ]

pub returns : goal.returns
returns g c = gather_ends c.loop-k.invariant (rw c.count-k-end.ensures at c.loop-k-test.false)
