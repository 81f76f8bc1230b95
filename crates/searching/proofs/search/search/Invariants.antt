-- Each pop leaves a search that leads to the same panel. The measure is the faces on the stack
-- and those not listed, and falls by one. Assumes nothing.
use Rattle.std.proofs.Common.{[], ◌+◌, ◌-◌, length, take}
use Rattle.connected.specs.Search.{search_from}
use Rattle.connected.specs.Joins.{joins_of}
use Rattle.connected.specs.Walk.{stack_of}
use Rattle.connected.proofs.Popping.{SeekingOn}
use Rattle.searching.proofs.search.search.Given as goal

abbrev pub invariant-loop-marks : goal.invariant-loop-marks
invariant-loop-marks l =
    SeekingOn (length l.ends) (joins_of l.joins) (search_from (length l.ends) (joins_of l.joins) [] (stack_of l.initial.stack l.initial.marks.top) (take l.initial.marks.n l.initial.flat)) l.initial.flat l.initial.marks.n l.seen l.stack l.flat l.marks.top l.marks.n

abbrev pub decreases-loop-marks : goal.decreases-loop-marks
decreases-loop-marks l = l.marks.top + (length l.ends - l.marks.n)
