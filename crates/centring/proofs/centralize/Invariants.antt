-- `centring::centralize` meets its contract, by the laws of `Sending`. Assumes nothing.
use Rattle.together.proofs.Sending.{Sending}
use Rattle.centring.proofs.centralize.Given as goal

abbrev pub invariant-loop-k : goal.invariant-loop-k
invariant-loop-k l = Sending l.n l.order l.from l.to l.rep l.initial.map l.map l.k
