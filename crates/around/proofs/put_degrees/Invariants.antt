-- the edges that are passed are counted
use Rattle.std.proofs.Common.{length}
use Rattle.around.proofs.Counted.{Counted}
use Rattle.around.proofs.put_degrees.Given as goal

abbrev pub invariant-loop-a : goal.invariant-loop-a
invariant-loop-a l = Counted (length l.fn.degrees) l.lowers l.highers l.degrees (length l.yielded)
