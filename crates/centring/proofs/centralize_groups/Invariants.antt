-- `centring::centralize_groups` meets its contract, by the laws of `Settling`. Assumes nothing.
use Rattle.together.proofs.Settling.{Settling}
use Rattle.centring.proofs.centralize_groups.Given as goal

abbrev pub invariant-loop-k : goal.invariant-loop-k
invariant-loop-k l = Settling l.w l.n l.s l.order l.ends l.initial.map l.map l.count l.from l.k
