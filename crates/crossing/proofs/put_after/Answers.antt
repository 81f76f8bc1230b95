-- The places of one face more, to the last. Assumes nothing.
use Rattle.std.proofs.Common.{ℕ, refl, arith}
use Rattle.std.proofs.lemmas.List.{length-take}
use Rattle.crossing.proofs.After.{ring_put, face_room, after_turns, after_ends}
use Rattle.crossing.proofs.put_after.Goals as goal

pub overflow_add-at : goal.overflow_add-at
overflow_add-at c =
    let room = face_room c.args.sizes.now _ _ c.loop-size.at c.loop-size.size-index _ c.loop-size-test.true refl c.loop-size.invariant c.requires in
    omega (arith, c.requires.few, c.loop-size.invariant.growing.long)

pub offset_bounds-after-at : goal.offset_bounds-after-at
offset_bounds-after-at c =
    let room = face_room c.args.sizes.now _ _ c.loop-size.at c.loop-size.size-index _ c.loop-size-test.true refl c.loop-size.invariant c.requires in
    omega (arith, c.requires.few, c.loop-size.invariant.growing.long)

pub slice_bounds-put_ring-end : goal.slice_bounds-put_ring-end
slice_bounds-put_ring-end c =
    face_room c.args.sizes.now _ _ c.loop-size.at c.loop-size.size-index _ c.loop-size-test.true refl c.loop-size.invariant c.requires

pub put_ring-requires : goal.put_ring-requires
put_ring-requires c =
    let room = face_room c.args.sizes.now _ _ c.loop-size.at c.loop-size.size-index _ c.loop-size-test.true refl c.loop-size.invariant c.requires in
    omega (arith, length-take {A = ℕ}, c.requires.few, c.loop-size.invariant.growing.long)

pub loop-size-preserved : goal.loop-size-preserved
loop-size-preserved c =
    let room = face_room c.args.sizes.now _ _ c.loop-size.at c.loop-size.size-index _ c.loop-size-test.true refl c.loop-size.invariant c.requires in
    after_turns c.args.sizes.now _ _ c.loop-size.at c.loop-size.size-index _ c.loop-size-test.true refl c.loop-size.invariant _
    (ring_put _ _ _ _ room c.put_ring.ensures)

pub returns : goal.returns
returns c = after_ends c.args.sizes.now _ _ c.loop-size.at c.loop-size.size-index c.requires c.loop-size-test.false c.loop-size.invariant
