-- The flag says whether one of the sizes before k lies outside.
use Rattle.lists.proofs.Parts.{Gathering}
use Rattle.mesh.specs.Table.{outside}
use Rattle.mesh.proofs.misfit.Given as goal

abbrev pub invariant-loop-n : goal.invariant-loop-n
invariant-loop-n l = Gathering outside l.sizes l.found l.n-index
