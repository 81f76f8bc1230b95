-- `sides::put_side` meets its contract: the key of the edge, and its wing, stand at one place of three columns. Assumes nothing.
use Rattle.sides.proofs.Columns.{use_written}
use Rattle.sides.proofs.put_side.Goals as goal

pub returns : goal.returns
returns c = use_written _ _ _ _ _ _ _ _ _ c.min.ensures c.max.ensures
