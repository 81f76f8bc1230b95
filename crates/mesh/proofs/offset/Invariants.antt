-- `mesh::offset` meets its contract: the sum of the first i sizes, at most 2 ^ 32 - 1 each, so that it cannot wrap. Assumes nothing.
use Rattle.mesh.proofs.Rows.{Adding}
use Rattle.mesh.proofs.offset.Given as goal

abbrev pub invariant-loop-n : goal.invariant-loop-n
invariant-loop-n l = Adding l.sizes l.k l.t l.n-index
