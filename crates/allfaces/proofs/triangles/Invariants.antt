-- The sizes before size k are those of triangles. Assumes nothing.
use Rattle.removal.specs.Working.{Triangles}
use Rattle.allfaces.proofs.triangles.Given as goal

abbrev pub invariant-loop-k : goal.invariant-loop-k
invariant-loop-k l = Triangles l.sizes l.k
