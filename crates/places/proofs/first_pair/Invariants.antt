-- No place before i has a mate. Assumes nothing.
use Rattle.std.proofs.Common.{length, ltb, map}
use Rattle.lists.proofs.Seeking.{Seeking}
use Rattle.splitting.specs.Splitting.{mate_of}
use Rattle.places.specs.Working.{position_at_lem}
use Rattle.places.proofs.first_pair.Given as goal

abbrev pub invariant-loop-i : goal.invariant-loop-i
invariant-loop-i l = Seeking (λ k. ltb (mate_of (map (position_at_lem l.face) l.row) k) (length l.row)) 0 (length l.row) l.i
