-- The cells of the first k coordinates are there. Assumes nothing.
use Rattle.lists.proofs.Writing.{Copying}
use Rattle.nearby.specs.Engine.{cells_of}
use Rattle.nearby.proofs.fill_cells.Given as goal

abbrev pub invariant-loop-k : goal.invariant-loop-k
invariant-loop-k l = Copying (cells_of l.t l.s) l.initial.cells l.cells 0 l.k
