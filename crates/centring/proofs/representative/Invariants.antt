-- `centring::representative` meets its contract, by the laws of `Centres`. Assumes nothing.
use Rattle.together.proofs.Centres.{Choosing}
use Rattle.centring.proofs.representative.Given as goal

abbrev pub invariant-loop-k : goal.invariant-loop-k
invariant-loop-k l = Choosing l.w l.n l.s l.order l.from l.to l.c l.k l.least l.rep
