-- `centring::group_centre` meets its contract, by the laws of `Centres`. Assumes nothing.
use Rattle.together.proofs.Centres.{Summing}
use Rattle.centring.proofs.group_centre.Given as goal

abbrev pub invariant-loop-k : goal.invariant-loop-k
invariant-loop-k l = Summing l.w l.s l.order l.from l.to l.k l.sum
