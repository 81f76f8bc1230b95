-- Each place that is passed has the key of the one behind it. Assumes nothing.
use Rattle.std.proofs.Common.{◌-◌}
use Rattle.places.specs.Working.{position_at_lem, Repeats}
use Rattle.places.proofs.repeats.Given as goal

abbrev pub invariant-loop-k : goal.invariant-loop-k
invariant-loop-k l = Repeats (position_at_lem l.face) l.row (l.k - 1)
