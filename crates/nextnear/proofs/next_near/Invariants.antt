-- `nextnear::next_near` meets its contract, by the laws of `Looking`. Assumes nothing.
use Prim.Native.Nat.{◌-◌}
use Rattle.nextnear.specs.Looking.{wanted}
use Rattle.nextnear.proofs.Looking.{Looked}
use Rattle.nextnear.proofs.next_near.Given as goal

abbrev pub invariant-loop-q : goal.invariant-loop-q
invariant-loop-q l = Looked (wanted l.t l.w l.s l.cells l.seen l.i l.low l.from) l.n l.order l.best l.q

abbrev pub decreases-loop-q : goal.decreases-loop-q
decreases-loop-q l = l.n - l.q
