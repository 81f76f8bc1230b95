-- `barleyhinge::bh_read_scan` meets its contract: what the call promises of its answer, taken apart. Assumes nothing.
use Rattle.scanned.specs.Answer.{ScanRead}
use Rattle.barleyhinge.proofs.Taken.{taken}
use Rattle.barleyhinge.proofs.bh_read_scan.Goals as goal

pub returns : goal.returns
returns c =
    taken (ScanRead _ _ _) _ _ c.read.ensures
    c.read_scan-scan.ensures
