-- The pairs of the points below j are counted. Assumes nothing.
use Rattle.nearby.specs.Engine.{beside_at}
use Rattle.nearby.proofs.Counting.{Paired}
use Rattle.nearby.proofs.count_pairs.Given as goal

abbrev pub invariant-loop-j : goal.invariant-loop-j
invariant-loop-j l = Paired (beside_at l.w l.cells) l.n l.found l.j
