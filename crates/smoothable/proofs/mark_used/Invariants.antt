-- `smoothable::mark_used` meets its contract: corner by corner. Assumes nothing.
use Rattle.smoothable.proofs.Marking.{Marking}
use Rattle.smoothable.proofs.mark_used.Given as goal

abbrev pub invariant-loop-k : goal.invariant-loop-k
invariant-loop-k l = Marking l.corners l.initial.used l.used l.k
