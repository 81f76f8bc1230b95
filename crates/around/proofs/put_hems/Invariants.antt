-- `around::put_hems` meets its contract: of the first e edges those with one wing have given their ends. The measure is what is left of the edges. Assumes nothing.
use Rattle.std.proofs.Common.{length}
use Rattle.around.proofs.Hemmed.{Hemmed}
use Rattle.around.proofs.put_hems.Given as goal

abbrev pub invariant-loop-e : goal.invariant-loop-e
invariant-loop-e l = Hemmed (length l.fn.first) l.lowers l.highers l.wings (l.first, l.second) l.e
