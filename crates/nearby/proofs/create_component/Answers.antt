-- A frame goes, or one comes; in the end there is none. Assumes nothing.
use Rattle.std.proofs.Common.{◌≡◌, refl, arith, length-set}
use Rattle.nearby.proofs.Frames.{ended}
use Rattle.nearby.proofs.Walking.{first_in, begins, top_in, asks, goes, goes_less, point_in, place_in, frame_in, comes, comes_less}
use Rattle.nearby.proofs.create_component.Goals as goal

pub offset_bounds-order-done : goal.offset_bounds-order-done
offset_bounds-order-done g c = omega (arith, first_in c.requires, c.requires.few)

pub bounds-order-done : goal.bounds-order-done
bounds-order-done g c = omega (arith, first_in c.requires, c.requires.taken.order_room)

pub overflow_add-taken : goal.overflow_add-taken
overflow_add-taken g c = omega (arith, first_in c.requires, c.requires.few)

pub loop-depth-init : goal.loop-depth-init
loop-depth-init g c = rw c.count-n.ensures (begins c.requires _)

pub offset_bounds-frames-depth : goal.offset_bounds-frames-depth
offset_bounds-frames-depth g c = omega (arith, top_in c.loop-depth.frames c.loop-depth.invariant c.loop-depth-test.true, c.requires.few, c.count-n.ensures)

pub bounds-frames-depth : goal.bounds-frames-depth
bounds-frames-depth g c = (top_in c.loop-depth.frames c.loop-depth.invariant c.loop-depth-test.true).1

pub next-requires : goal.next-requires
next-requires g c = rw (← c.count-n.ensures) (asks c.loop-depth.frames c.loop-depth.invariant c.loop-depth-test.true)

pub loop-depth-smaller-in-None : goal.loop-depth-smaller-in-None
loop-depth-smaller-in-None g c = goes_less c.loop-depth.frames c.loop-depth.invariant c.loop-depth-test.true c.in-None.ensures

pub loop-depth-preserved-in-None : goal.loop-depth-preserved-in-None
loop-depth-preserved-in-None g c = goes c.loop-depth.frames c.loop-depth.invariant c.loop-depth-test.true c.in-None.ensures refl

pub offset_bounds-order-taken : goal.offset_bounds-order-taken
offset_bounds-order-taken g c =
    omega (arith, place_in c.loop-depth.frames c.loop-depth.invariant c.loop-depth-test.true _ c.in-Some.ensures, c.requires.few, c.count-n.ensures)

pub bounds-order-taken : goal.bounds-order-taken
bounds-order-taken g c =
    omega (arith, place_in c.loop-depth.frames c.loop-depth.invariant c.loop-depth-test.true _ c.in-Some.ensures, c.loop-depth.invariant.held.order_room)

pub bounds-seen-j : goal.bounds-seen-j
bounds-seen-j g c =
    omega (arith, point_in c.loop-depth.frames c.loop-depth.invariant c.loop-depth-test.true _ c.in-Some.ensures, c.loop-depth.invariant.held.seen_room)

pub bounds-frames-depth-in-Some : goal.bounds-frames-depth-in-Some
bounds-frames-depth-in-Some g c = (top_in c.loop-depth.frames c.loop-depth.invariant c.loop-depth-test.true).1

pub bounds-frames-depth-in-Some-2 : goal.bounds-frames-depth-in-Some-2
bounds-frames-depth-in-Some-2 g c = simp length-set (frame_in c.loop-depth.frames c.loop-depth.invariant c.loop-depth-test.true _ c.in-Some.ensures)

pub overflow_add-taken-in-Some : goal.overflow_add-taken-in-Some
overflow_add-taken-in-Some g c =
    omega (arith, place_in c.loop-depth.frames c.loop-depth.invariant c.loop-depth-test.true _ c.in-Some.ensures, c.requires.few, c.count-n.ensures)

pub loop-depth-smaller : goal.loop-depth-smaller
loop-depth-smaller g c = comes_less c.loop-depth.frames c.loop-depth.invariant c.loop-depth-test.true _ c.in-Some.ensures

pub loop-depth-preserved : goal.loop-depth-preserved
loop-depth-preserved g c = comes c.loop-depth.frames c.loop-depth.invariant c.loop-depth-test.true _ c.in-Some.ensures

pub returns : goal.returns
returns g c =
    let e : c.loop-depth.depth ≡ 0 = omega arith in
    rw (← c.count-n.ensures) (record {
      taken = c.loop-depth.invariant.held;
      lowest = c.loop-depth.invariant.lowest;
      list = ended c.loop-depth.invariant e;
    })
