-- `barleyhinge::bh_sheet` meets its contract: what the call promises of its answer, taken apart. Assumes nothing.
use Rattle.sheet.specs.Sheet.{Printed}
use Rattle.barleyhinge.proofs.Taken.{taken}
use Rattle.barleyhinge.proofs.bh_sheet.Goals as goal

pub returns : goal.returns
returns c = taken (Printed _ _ _) _ _ c.printed.ensures c.sheet-printed.ensures
