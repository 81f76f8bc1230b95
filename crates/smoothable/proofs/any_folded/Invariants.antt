-- `smoothable::any_folded` meets its contract: a search through the triangles. Assumes nothing.
use Rattle.lists.proofs.Parts.{Searching}
use Rattle.folding.specs.Folding.{folded}
use Rattle.smoothed.specs.Columns.{triangles}
use Rattle.smoothable.proofs.any_folded.Given as goal

abbrev pub invariant-loop-k : goal.invariant-loop-k
invariant-loop-k l = Searching folded (triangles l.corners) l.k
