-- `measured::put_lengths` meets its contract: the lengths of the first k hems are put, `from` is where hem k starts, and k rises to all of
-- them. Assumes nothing.
use Rattle.measured.proofs.Measuring.{Measuring}
use Rattle.measured.proofs.put_lengths.Given as goal

abbrev pub invariant-loop-k : goal.invariant-loop-k
invariant-loop-k l = Measuring l.flat l.edges l.triples l.initial.out l.out l.from l.k
