-- `matching::mark_half_in` meets its contract: columns, then the sort. Assumes nothing.
use Rattle.matching.proofs.Rooms.{half_done}
use Rattle.matching.proofs.mark_half_in.Goals as goal

pub returns : goal.returns
returns c =
    half_done _ _ _ _ _ _ _ c.requires _ _ _ _ _ c.put_columns.ensures _ c.put_firsts.ensures
