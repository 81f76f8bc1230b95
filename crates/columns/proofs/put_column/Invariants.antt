-- After k faces the numbers of their uses are written, and `at` corners are passed.
-- Assumes nothing.
use Rattle.columns.proofs.Using.{Filling}
use Rattle.columns.proofs.put_column.Given as goal

abbrev pub invariant-loop-k : goal.invariant-loop-k
invariant-loop-k l = Filling l.normals l.which l.corners l.sizes l.initial.out l.out l.at l.k
