-- Of the points below i, those that are compared with j are counted. Assumes nothing.
use Rattle.nearby.specs.Engine.{beside_at}
use Rattle.nearby.proofs.Counting.{Counted}
use Rattle.nearby.proofs.count_with.Given as goal

abbrev pub invariant-loop-i : goal.invariant-loop-i
invariant-loop-i l = Counted (λ k. beside_at l.w l.cells k l.j) l.j l.found l.i
