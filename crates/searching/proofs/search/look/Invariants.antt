-- After the entries before p, a look through what is left leads where the whole leads. Assumes nothing.
use Rattle.std.proofs.Common.{length}
use Rattle.connected.specs.Walk.{state_of}
use Rattle.connected.proofs.Walking.{LookingOn}
use Rattle.searching.proofs.search.look.Given as goal

abbrev pub invariant-loop-p : goal.invariant-loop-p
invariant-loop-p l =
    LookingOn (length l.fn.seen) l.joins l.order l.from l.to (state_of l.fn.stack l.top l.fn.flat l.n) l.fn.flat l.n l.seen l.stack l.flat l.marks.top l.marks.n l.p
