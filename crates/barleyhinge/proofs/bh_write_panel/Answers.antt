-- `barleyhinge::bh_write_panel` meets its contract: what the call promises of its answer, taken apart. Assumes nothing.
use Rattle.written.specs.Answer.{PanelWritten}
use Rattle.barleyhinge.proofs.Taken.{taken}
use Rattle.barleyhinge.proofs.bh_write_panel.Goals as goal

pub returns : goal.returns
returns c = taken (PanelWritten _ _ _) _ _ c.saved.ensures c.write_panel-written.ensures
