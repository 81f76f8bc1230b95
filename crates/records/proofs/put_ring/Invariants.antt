-- `records::put_ring` meets its contract: of the n corners the first k are written, and k rises to all of them. Assumes nothing.
use Rattle.records.proofs.Ringing.{Ringing}
use Rattle.records.proofs.put_ring.Given as goal

abbrev pub invariant-loop-k : goal.invariant-loop-k
invariant-loop-k l = Ringing l.marked l.file l.a l.n l.initial.out l.out l.at l.k
