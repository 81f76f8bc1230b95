-- The walk under way, and what is left to do. Assumes nothing.
use Rattle.std.proofs.Common.{take}
use Rattle.nearby.proofs.Frames.{Good, work, nodes_of, lefts_of}
use Rattle.nearby.proofs.create_component.Given as goal

abbrev pub invariant-loop-depth : goal.invariant-loop-depth
invariant-loop-depth g l =
    Good (g.N.Neighbours.near l.points) l.n (take l.done l.fn.order) l.start l.order l.seen (nodes_of l.frames) (lefts_of l.frames) l.taken l.depth

abbrev pub decreases-loop-depth : goal.decreases-loop-depth
decreases-loop-depth g l = work l.n (lefts_of l.frames) l.taken l.depth
