-- `lines::put_hems` meets its contract: the lines of the first k wires are put, `from` is where wire k starts, and k rises to all of them. Assumes nothing.
use Rattle.lines.proofs.Wiring.{Hemming}
use Rattle.lines.proofs.put_hems.Given as goal

abbrev pub invariant-loop-n : goal.invariant-loop-n
invariant-loop-n l = Hemming l.flat l.lengths l.initial.out l.out l.at l.to l.from l.n-index
