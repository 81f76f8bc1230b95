-- `hemlines::put_hems` meets its contract: the lines of the first k hems are put, and k rises to all of them (`Listed`). Assumes nothing.
use Rattle.hemlines.proofs.Listed.{Hemming}
use Rattle.hemlines.proofs.put_hems.Given as goal

abbrev pub invariant-loop-k : goal.invariant-loop-k
invariant-loop-k l = Hemming l.panels l.edges l.lengths l.initial.out l.out l.at l.to l.k
