-- One cell more, and in the end all. Assumes nothing.
use Rattle.nearby.proofs.Agree.{cells_turn, cells_end}
use Rattle.nearby.proofs.fill_cells.Goals as goal

pub loop-k-preserved : goal.loop-k-preserved
loop-k-preserved c = cells_turn c.args.t c.args.s.now _ _ c.loop-k.k _ c.loop-k-test.true c.cell_of.ensures c.loop-k.invariant

pub returns : goal.returns
returns c = cells_end c.args.t c.args.s.now _ _ c.loop-k.k c.loop-k-test.false c.loop-k.invariant
