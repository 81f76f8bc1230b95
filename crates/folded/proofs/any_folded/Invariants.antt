-- None of the faces before face k is folded. Assumes nothing.
use Rattle.folded.proofs.Looking.{Looking}
use Rattle.folded.proofs.any_folded.Given as goal

abbrev pub invariant-loop-k : goal.invariant-loop-k
invariant-loop-k l = Looking l.corners l.sizes l.from l.k
