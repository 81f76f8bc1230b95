-- `nextnear::best_in_run` meets its contract, by the laws of `Looking`. Assumes nothing.
use Prim.Native.Nat.{◌≤◌}
use Rattle.nextnear.specs.Looking.{wanted, Best}
use Rattle.nextnear.proofs.best_in_run.Given as goal

abbrev pub invariant-loop-k : goal.invariant-loop-k
invariant-loop-k l = (l.fore ≤ l.k) × (l.k ≤ l.rear) × Best (wanted l.t l.w l.s l.cells l.seen l.i l.low l.from) l.order l.k l.rear l.best l.found
