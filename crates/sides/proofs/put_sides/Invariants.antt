-- `sides::put_sides` meets its contract: after k faces the columns of their uses are written. Assumes nothing.
use Rattle.sides.proofs.Columns.{Filling}
use Rattle.sides.proofs.put_sides.Given as goal

abbrev pub invariant-loop-k : goal.invariant-loop-k
invariant-loop-k l = Filling l.corners l.initial.lower l.initial.higher l.initial.wing l.lower l.higher l.wing l.k
