-- No position before i comes again behind it. Assumes nothing.
use Rattle.std.proofs.Common.{length, ltb}
use Rattle.lists.proofs.Seeking.{Seeking}
use Rattle.splitting.specs.Splitting.{mate_of}
use Rattle.folding.proofs.first.Given as goal

abbrev pub invariant-loop-i : goal.invariant-loop-i
invariant-loop-i l = Seeking (λ k. ltb (mate_of l.places k) (length l.places)) 0 (length l.places) l.i
