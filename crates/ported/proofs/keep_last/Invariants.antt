-- What the table will be is the same at each turn. Assumes nothing.
use Rattle.ported.proofs.Numbering.{Numbering}
use Rattle.ported.proofs.keep_last.Given as goal

abbrev pub invariant-loop-k : goal.invariant-loop-k
invariant-loop-k l = Numbering l.starts l.initial.firsts l.firsts l.k
