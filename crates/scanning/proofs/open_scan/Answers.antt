-- `scanning::open_scan` meets its contract: a refused scan is answered by its number, any other is the mesh at the front of the lists, which is
-- then cleaned (`Opened`). Assumes nothing.
use Rattle.opening.proofs.Reading.{still_full}
use Rattle.scanning.proofs.Opened.{scan_standing, scan_left, scan_refused}
use Rattle.scanning.proofs.open_scan.Goals as goal

pub returns-then-scan-ne0 : goal.returns-then-scan-ne0
returns-then-scan-ne0 c =
    scan_refused
    c.requires
    (still_full c.requires c.positions-1.given c.textures-1.given c.normals-1.given c.corners-1.given
    c.sizes-1.given)
    c.read_scan-scan.ensures c.if-scan-ne0.true

pub clean-requires : goal.clean-requires
clean-requires c =
    scan_standing
    c.requires
    (still_full c.requires c.positions-1.given c.textures-1.given c.normals-1.given c.corners-1.given
    c.sizes-1.given)
    c.read_scan-scan.ensures c.if-scan-ne0.false

pub returns : goal.returns
returns c =
    scan_left
    c.requires
    (still_full c.requires c.positions-1.given c.textures-1.given c.normals-1.given c.corners-1.given
    c.sizes-1.given)
    c.read_scan-scan.ensures c.if-scan-ne0.false c.clean.ensures
