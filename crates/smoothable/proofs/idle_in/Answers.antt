-- `smoothable::idle_in` meets its contract: a position with no mark is in no face. Assumes nothing.
use Rattle.std.proofs.Common.{◌∙◌}
use Rattle.smoothable.proofs.Marking.{idle_found}
use Rattle.smoothable.proofs.idle_in.Goals as goal

pub returns : goal.returns
returns c = c.some_other.ensures ∙ idle_found _ _ _ c.requires.whole c.mark_used.ensures
