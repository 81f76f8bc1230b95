-- `inreach::count_pairs` meets its contract, by the laws of `Counting` and `Paired`. Assumes nothing.
use Rattle.nearby.specs.Engine.{beside_at}
use Rattle.inreach.proofs.Counting.{Paired}
use Rattle.inreach.proofs.count_pairs.Given as goal

abbrev pub invariant-loop-p : goal.invariant-loop-p
invariant-loop-p l = Paired (beside_at l.w l.cells) l.n l.order l.found l.p
