-- The pieces of the faces before face k and their numbers are written. Assumes nothing.
use Rattle.allfaces.proofs.Telling.{Going}
use Rattle.allfaces.proofs.all_pieces.Given as goal

abbrev pub invariant-loop-k : goal.invariant-loop-k
invariant-loop-k l = Going l.first l.corners l.sizes l.initial.out l.out l.initial.lens l.lens l.initial.tags l.tags l.to.corners l.to.faces l.from l.k
