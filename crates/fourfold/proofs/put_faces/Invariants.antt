-- `fourfold::put_faces` meets its contract: face after face is written behind the last. Assumes nothing.
use Rattle.fourfold.proofs.Fours.{Folding}
use Rattle.fourfold.proofs.put_faces.Given as goal

abbrev pub invariant-loop-k : goal.invariant-loop-k
invariant-loop-k l = Folding l.corners l.positions l.initial.out l.out l.k
