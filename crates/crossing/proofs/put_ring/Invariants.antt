-- The first i places of the face have their next. Assumes nothing.
use Rattle.lists.proofs.Writing.{Copying}
use Rattle.crossing.specs.Crossing.{ring_row}
use Rattle.crossing.proofs.put_ring.Given as goal

abbrev pub invariant-loop-i : goal.invariant-loop-i
invariant-loop-i l = Copying (ring_row l.at l.n) l.fn.ring l.ring 0 l.i
