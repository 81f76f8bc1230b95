-- `measured::hem_length` meets its contract: the lengths of the first i edges are added up, and i rises to all of them. Assumes nothing.
use Rattle.measured.proofs.Walking.{Walking}
use Rattle.measured.proofs.hem_length.Given as goal

abbrev pub invariant-loop-i : goal.invariant-loop-i
invariant-loop-i l = Walking l.wire l.triples l.long l.i
