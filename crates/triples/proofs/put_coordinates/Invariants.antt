-- The first k coordinates are put.
use Rattle.triples.proofs.Coordinates.{Putting}
use Rattle.triples.proofs.put_coordinates.Given as goal

abbrev pub invariant-loop-k : goal.invariant-loop-k
invariant-loop-k l = Putting l.bytes l.fn.out l.out l.k
