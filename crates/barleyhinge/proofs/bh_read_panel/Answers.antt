-- `barleyhinge::bh_read_panel` meets its contract: what the call promises of its answer, taken apart. Assumes nothing.
use Rattle.reading.specs.Answer.{PanelRead}
use Rattle.barleyhinge.proofs.Taken.{taken}
use Rattle.barleyhinge.proofs.bh_read_panel.Goals as goal

pub returns : goal.returns
returns c =
    taken (PanelRead _ _ _) _ _ c.read.ensures
    c.read_panel-panel.ensures
