-- A number below ten is one digit; of any other the last digit stands behind those of its tenth. Assumes nothing.
use Rattle.std.proofs.Common.{arith}
use Rattle.lists.proofs.Listing.{written_long}
use Rattle.text.proofs.Putting.{room_digit, written_digit, room_tenth, room_last, written_last}
use Rattle.text.proofs.+put_decimal.Goals as goal

pub bounds-out-at : goal.bounds-out-at
bounds-out-at t c = room_digit _ _ _ c.if-n-lt10.true c.requires

pub returns-then-n-lt10 : goal.returns-then-n-lt10
returns-then-n-lt10 t c = written_digit _ _ _ _ c.if-n-lt10.true c.digit.ensures

pub put_decimal-last-requires : goal.put_decimal-last-requires
put_decimal-last-requires t c = (omega arith, room_tenth _ _ _ c.if-n-lt10.false c.requires)

pub bounds-out-last : goal.bounds-out-last
bounds-out-last t c = room_last _ _ _ _ _ c.if-n-lt10.false c.requires c.put_decimal-last.ensures

pub overflow_add-result-2 : goal.overflow_add-result-2
overflow_add-result-2 t c =
    omega (arith, room_last _ _ _ _ _ c.if-n-lt10.false c.requires c.put_decimal-last.ensures, written_long _ _ _ _ _ c.put_decimal-last.ensures)

pub returns : goal.returns
returns t c = written_last _ _ _ _ _ _ c.if-n-lt10.false c.digit-2.ensures c.put_decimal-last.ensures
