-- The uses of the first k faces are written. Assumes nothing.
use Rattle.uses.proofs.Facing.{Facing}
use Rattle.uses.proofs.put_uses.Given as goal

abbrev pub invariant-loop-k : goal.invariant-loop-k
invariant-loop-k l = Facing l.corners l.sizes l.initial.lowers l.initial.highers l.initial.downs l.lowers l.highers l.downs l.at l.k
