-- Each record lies behind the one before it. Assumes nothing.
use Rattle.std.proofs.Common.{length, ◌-◌}
use Rattle.try_damaged.proofs.coordinates.changes.Given as goal

abbrev pub decreases-loop-at : goal.decreases-loop-at
decreases-loop-at l = length l.initial.file - l.at
