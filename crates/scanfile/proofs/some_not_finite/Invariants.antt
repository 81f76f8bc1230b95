-- `scanfile::some_not_finite` meets its contract: one point after the other. Assumes nothing.
use Rattle.scanfile.proofs.Finite.{Finding}
use Rattle.scanfile.proofs.some_not_finite.Given as goal

abbrev pub invariant-loop-k : goal.invariant-loop-k
invariant-loop-k l = Finding l.file l.points l.k
