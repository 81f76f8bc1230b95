-- The places of the faces passed have their next. Assumes nothing.
use Rattle.crossing.proofs.After.{Ringing}
use Rattle.crossing.proofs.put_after.Given as goal

abbrev pub invariant-loop-size : goal.invariant-loop-size
invariant-loop-size l = Ringing l.sizes l.fn.after l.after l.at l.size-index
