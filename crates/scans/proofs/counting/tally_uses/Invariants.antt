-- What the first i uses come to, with what is left, comes to the same as all. Assumes nothing.
use Rattle.scans.proofs.Tallying.{Tallying}
use Rattle.scans.proofs.counting.tally_uses.Given as goal

abbrev pub invariant-loop-i : goal.invariant-loop-i
invariant-loop-i l = Tallying l.lowers l.highers l.downs l.order l.t l.i
