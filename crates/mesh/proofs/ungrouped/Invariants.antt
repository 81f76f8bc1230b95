-- `mesh::ungrouped` meets its contract: the flag says whether a kind among the first k sizes falls, and `last` is the last of them. Assumes nothing.
use Rattle.mesh.proofs.Rows.{Grouping}
use Rattle.mesh.specs.Kinds.{kind_number}
use Rattle.mesh.proofs.ungrouped.Given as goal

abbrev pub invariant-loop-n : goal.invariant-loop-n
invariant-loop-n l = Grouping l.sizes l.fallen (kind_number l.last) l.n-index
