-- The twins of the first i uses of the order are written. Assumes nothing.
use Rattle.crossing.proofs.Twin.{Pairing}
use Rattle.crossing.proofs.put_twins.Given as goal

abbrev pub invariant-loop-i : goal.invariant-loop-i
invariant-loop-i l = Pairing l.lowers l.highers l.order l.fn.twins l.twins l.back l.i
