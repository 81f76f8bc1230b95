-- `matching::mark_both` meets its contract: it is `mark_both_in` with the fronts of rows of fixed length. Assumes nothing.
use Rattle.matching.proofs.Rooms.{alike_room}
use Rattle.matching.proofs.mark_both.Goals as goal

pub mark_both_in-requires : goal.mark_both_in-requires
mark_both_in-requires c = alike_room _ _ _ c.requires
