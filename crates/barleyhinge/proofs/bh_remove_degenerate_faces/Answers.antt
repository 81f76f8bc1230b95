-- `barleyhinge::bh_remove_degenerate_faces` meets its contract: what the call promises of its answer, taken apart. Assumes nothing.
use Rattle.removal.specs.Folded.{Removal}
use Rattle.barleyhinge.proofs.Taken.{taken}
use Rattle.barleyhinge.proofs.bh_remove_degenerate_faces.Goals as goal

pub returns : goal.returns
returns c = taken (Removal _ _ _) _ _ c.removed.ensures c.remove_degenerate_faces-left.ensures
