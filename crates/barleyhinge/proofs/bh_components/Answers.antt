-- `barleyhinge::bh_components` meets its contract: what the call promises of its answer, taken apart. Assumes nothing.
use Rattle.panels.specs.Contract.{PanelsAnswer}
use Rattle.barleyhinge.proofs.Taken.{taken}
use Rattle.barleyhinge.proofs.bh_components.Goals as goal

pub returns : goal.returns
returns c = taken (PanelsAnswer _ _ _ _) _ _ c.panelled.ensures c.components-found.ensures
