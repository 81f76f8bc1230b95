-- Each record has a word at least and ends within the list: fewer words are left. Assumes nothing.
use Rattle.std.proofs.Common.{◌-◌}
use Rattle.try_replay.proofs.replay.Given as goal

abbrev pub decreases-loop-at : goal.decreases-loop-at
decreases-loop-at l = l.end - l.at
