-- The index is missing, or its number is in the map, or this is its first use; each case is a law of proofs/Turn.antt. Assumes nothing.
use Rattle.std.proofs.Common.{arith}
use Rattle.oneindex.proofs.Turn.{turn_missing, turn_old, turn_new, index_few, used_few, entry_old, entry_new}
use Rattle.oneindex.proofs.take_in.Goals as goal

pub returns-then-i : goal.returns-then-i
returns-then-i c = turn_missing c.requires c.if-i.true

pub offset_bounds-old2new-x : goal.offset_bounds-old2new-x
offset_bounds-old2new-x c = omega (arith, index_few c.requires c.if-i.false)

pub bounds-old2new-x : goal.bounds-old2new-x
bounds-old2new-x c = omega (arith, index_few c.requires c.if-i.false, c.requires.tables.wide)

pub returns-then-m : goal.returns-then-m
returns-then-m c = turn_old c.requires c.if-i.false c.if-m.true

pub offset_bounds-old2new-x-2 : goal.offset_bounds-old2new-x-2
offset_bounds-old2new-x-2 c = omega (arith, index_few c.requires c.if-i.false)

pub bounds-old2new-x-2 : goal.bounds-old2new-x-2
bounds-old2new-x-2 c = omega (arith, index_few c.requires c.if-i.false, c.requires.tables.wide)

pub put_entry-requires : goal.put_entry-requires
put_entry-requires c =
    let w = c.requires.pointed in
    let old = entry_old c.requires c.if-i.false c.if-m.false in
    let new = entry_new c.requires c.if-i.false c.if-m.false in
    record { entry = record { least = w.least; most = w.most; within = old }; entry_2 = record { least = w.least; most = w.most; within = new } }

pub overflow_add-result : goal.overflow_add-result
overflow_add-result c = omega (arith, used_few c.requires c.if-i.false c.if-m.false, c.requires.pointed.few)

pub returns : goal.returns
returns c = rw c.put_entry.ensures (turn_new c.requires c.if-i.false c.if-m.false)
