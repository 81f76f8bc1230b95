-- The first u places have what follows them. Assumes nothing.
use Rattle.lists.proofs.Writing.{Copying}
use Rattle.crossing.specs.Crossing.{follow_row}
use Rattle.crossing.proofs.put_follows.Given as goal

abbrev pub invariant-loop-u : goal.invariant-loop-u
invariant-loop-u l = Copying (follow_row l.after l.twins) l.fn.follows l.follows 0 l.u
