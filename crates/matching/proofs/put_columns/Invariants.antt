-- `matching::put_columns` meets its contract: one point more at a time. Assumes nothing.
use lib.ListN.{length}
use Rattle.matching.specs.Steps.{half_at}
use Rattle.matching.proofs.Filling.{Filling}
use Rattle.matching.proofs.put_columns.Given as goal

abbrev pub invariant-loop-k : goal.invariant-loop-k
invariant-loop-k l = Filling (half_at l.upper l.file) (length l.initial.a) l.a l.b l.c l.d l.k
