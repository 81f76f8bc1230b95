-- `barleyhinge::bh_hem_sheet` meets its contract: what the call promises of its answer, taken apart. Assumes nothing.
use Rattle.hemfile.specs.HemFile.{HemsPrinted}
use Rattle.barleyhinge.proofs.Taken.{taken}
use Rattle.barleyhinge.proofs.bh_hem_sheet.Goals as goal

pub returns : goal.returns
returns c = taken (HemsPrinted _ _ _) _ _ c.hems_printed.ensures c.hem_sheet-hems.ensures
