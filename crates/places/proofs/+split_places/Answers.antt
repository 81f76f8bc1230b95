-- Where the row begins with equal corners, its pieces are those of the rest. Where the search finds a pair, the row that is turned to begin
-- there has the two rings one behind the other, each shorter than the ring, and what the first ring's pieces leave of the room is enough for
-- the second's. Where it finds none, the ring is not folded. Assumes nothing.
use Rattle.std.proofs.Common.{refl, arith}
use Rattle.places.proofs.Taking.{whole_parted}
use Rattle.places.proofs.Cutting.{shorter_one, places_one, room_one, shorter_two, places_two, room_two, cut_parted}
use Rattle.places.proofs.Repeating.{passed_shorter, passed_places, passed_room, passed_parted}
use Rattle.places.proofs.+split_places.Goals as goal

pub split_places-requires : goal.split_places-requires
split_places-requires t c =
    let e = c.repeats-s.ensures in
    let some = c.if-s-gt0.true in (
      omega (arith, passed_shorter e some, c.decreases),
      (passed_places e some c.args.face.now c.requires.places, passed_room e some _ _ _ _ c.requires.room),
    )

pub returns-then-s-gt0 : goal.returns-then-s-gt0
returns-then-s-gt0 t c =
    passed_parted c.repeats-s.ensures c.if-s-gt0.true c.split_places.new.row _ _ _ _ _ _ _ _ _ c.split_places.ensures c.split_places.auto.row refl

pub slice_bounds-split_places-end-in-Some : goal.slice_bounds-split_places-end-in-Some
slice_bounds-split_places-end-in-Some t c = omega (arith, c.in-Some.ensures.within)

pub split_places-mid-requires : goal.split_places-mid-requires
split_places-mid-requires t c =
    let s = c.in-Some.ensures in
    let e = c.rotate.ensures in
    (omega (arith, shorter_one s e, c.decreases), (places_one s e c.args.face.now c.requires.places, room_one s e _ _ _ _ c.requires.room))

pub split_places-requires-in-Some : goal.split_places-requires-in-Some
split_places-requires-in-Some t c =
    let s = c.in-Some.ensures in
    let e = c.rotate.ensures in
    let y = c.split_places-mid.new.row in
    let k = c.split_places-mid.auto.row in
    let room = room_two s e y k _ _ _ _ _ _ _ _ c.split_places-mid.ensures.taken c.requires.room c.split_places-mid.auto.took c.split_places-mid.auto.lens in
    (omega (arith, shorter_two s e y k, c.decreases), (places_two s e y k c.args.face.now c.requires.places, room))

pub returns-in-Some : goal.returns-in-Some
returns-in-Some t c =
    cut_parted c.in-Some.ensures c.rotate.ensures c.split_places-mid.new.row c.split_places-mid.auto.row _ _ _ _ _ _ _ _ c.split_places-mid.ensures.taken
    c.split_places-in-Some.new.row _ _ _ _ _ c.split_places-mid.ensures.rings c.split_places-in-Some.ensures refl

pub returns : goal.returns
returns t c = whole_parted _ _ _ _ _ _ _ _ _ _ c.in_default.ensures c.put_piece.ensures
