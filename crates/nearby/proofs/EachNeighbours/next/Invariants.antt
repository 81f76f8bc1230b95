-- From `from` down to j no point is near i and not taken. Assumes nothing.
use Rattle.nearby.specs.Engine.{near_by, fresh}
use Rattle.nearby.proofs.Fresh.{Seeking}
use Rattle.nearby.proofs.EachNeighbours.next.Given as goal

abbrev pub invariant-loop-j : goal.invariant-loop-j
invariant-loop-j l = Seeking (fresh (near_by l.self.t l.self.w l.self.s.now l.self.cells.now) l.seen l.i) l.low l.from l.j
