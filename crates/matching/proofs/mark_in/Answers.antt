-- `matching::mark_in` meets its contract: marks by half, then by both marks. Assumes nothing.
use Rattle.matching.proofs.Rooms.{both_done}
use Rattle.matching.proofs.mark_in.Goals as goal

pub returns : goal.returns
returns c =
    both_done _ _ _ _ c.requires _ _ c.mark_half.ensures c.mark_half-2.ensures _ c.mark_both.ensures
