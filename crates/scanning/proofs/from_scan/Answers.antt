-- `scanning::from_scan` meets its contract: the sheet is the refusal of the scan's number, or that of its mesh after cleaning. Assumes
-- nothing.
use Rattle.finding.proofs.Wiring.{sheeted_as}
use Rattle.sheet.proofs.Printing.{refused_text, kept_findable, kept_text}
use Rattle.scanning.proofs.Printing.{sheet_is}
use Rattle.scanning.proofs.from_scan.Goals as goal

pub returns-then-number-ne0 : goal.returns-then-number-ne0
returns-then-number-ne0 c =
    let left = c.left_of-left.ensures in
    sheeted_as (sheet_is _ _ (refused_text left c.if-number-ne0.true)) c.put_refusal.ensures

pub put_found-requires : goal.put_found-requires
put_found-requires c =
    kept_findable c.left_of-left.ensures c.if-number-ne0.false c.requires

pub returns : goal.returns
returns c =
    let left = c.left_of-left.ensures in
    sheeted_as (sheet_is _ _ (kept_text left c.if-number-ne0.false)) c.put_found.ensures
