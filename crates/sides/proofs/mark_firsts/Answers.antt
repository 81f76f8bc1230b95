-- `sides::mark_firsts` meets its contract: where the other digits are alike, the first use of a key is that of the edge. Assumes nothing.
use Rattle.sides.proofs.Marks.{front_ready, rows_ready, marks_done}
use Rattle.sides.proofs.mark_firsts.Goals as goal

pub put_firsts-requires : goal.put_firsts-requires
put_firsts-requires c = rows_ready _ _ _ _ _ (front_ready _ _ _ c.requires)

pub returns : goal.returns
returns c = marks_done _ _ _ _ _ (front_ready _ _ _ c.requires) _ c.put_firsts.ensures
