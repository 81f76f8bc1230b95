-- `scanning::left_of` meets its contract: what is opened is kept by its counts, corners and sizes. Assumes nothing.
use Rattle.scanning.proofs.Opened.{scan_kept}
use Rattle.scanning.proofs.left_of.Goals as goal

pub returns : goal.returns
returns c =
    scan_kept c.open_scan.ensures
