-- `barleyhinge::bh_push` meets its contract: what the call promises of its answer, taken apart. Assumes nothing.
use Rattle.faces.specs.Faces.{Grouped}
use Rattle.barleyhinge.proofs.Taken.{taken}
use Rattle.barleyhinge.proofs.bh_push.Goals as goal

pub returns : goal.returns
returns c = taken (Grouped _ _ _) _ _ c.pushed.ensures c.push-pushed.ensures
