-- No place between i and j has i's key. Assumes nothing.
use Rattle.std.proofs.Common.{◌+◌, length}
use Rattle.lists.proofs.Seeking.{Seeking}
use Rattle.places.specs.Working.{position_at_lem}
use Rattle.places.proofs.Seeking.{same}
use Rattle.places.proofs.mate_at.Given as goal

abbrev pub invariant-loop-j : goal.invariant-loop-j
invariant-loop-j l = Seeking (same (position_at_lem l.face) l.row l.i) (l.i + 1) (length l.row) l.j
