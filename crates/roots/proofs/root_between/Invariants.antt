-- The root stays between the two bounds, and they come nearer with each turn. Assumes nothing.
use Rattle.std.proofs.Common.{◌-◌}
use Rattle.roots.specs.Roots.{Within}
use Rattle.roots.proofs.root_between.Given as goal

abbrev pub invariant-loop-low : goal.invariant-loop-low
invariant-loop-low l = Within l.x l.low l.high

abbrev pub decreases-loop-low : goal.decreases-loop-low
decreases-loop-low l = l.high - l.low
