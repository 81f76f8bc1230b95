-- `inreach::count_behind` meets its contract, by the laws of `Counting`. Assumes nothing.
use Prim.Native.Nat.{◌-◌}
use lib.ListN.{get_or}
use Rattle.nearby.specs.Engine.{beside_at}
use Rattle.inreach.proofs.Counting.{Behind}
use Rattle.inreach.proofs.count_behind.Given as goal

abbrev pub invariant-loop-q : goal.invariant-loop-q
invariant-loop-q l = Behind (beside_at l.w l.cells (get_or l.order l.p 0)) l.n l.order l.p l.found l.q

abbrev pub decreases-loop-q : goal.decreases-loop-q
decreases-loop-q l = l.n - l.q
