-- `barleyhinge::bh_clean_panel` meets its contract: what the call promises of its answer, taken apart. Assumes nothing.
use Rattle.cleanfile.specs.Cleaning.{PanelCleaned}
use Rattle.barleyhinge.proofs.Taken.{taken}
use Rattle.barleyhinge.proofs.bh_clean_panel.Goals as goal

pub returns : goal.returns
returns c = taken (PanelCleaned _ _ _) _ _ c.cleaned.ensures c.clean-clean.ensures
