-- the edges that are passed have pulled
use Rattle.std.proofs.Common.{length}
use Rattle.pulling.proofs.Pulled.{Pulled}
use Rattle.pulling.proofs.put_pulls.Given as goal

abbrev pub invariant-loop-a : goal.invariant-loop-a
invariant-loop-a l = Pulled l.positions l.lowers l.highers l.pulls (length l.yielded)
