-- `put_placed` meets its contract: the coordinates are those of the bytes, and the sheet is that of the mesh and them (`Printing`). Assumes
-- nothing.
use native.Mathlib.Omega.{arith}
use Rattle.hemtext.proofs.Texts.{sheeted_as}
use Rattle.hemfile.proofs.Printing.{textable, placed_text}
use Rattle.hemfile.proofs.put_placed.Goals as goal

pub put_coordinates-requires : goal.put_coordinates-requires
put_coordinates-requires c =
    let pre = c.requires in
    omega (arith, pre.whole, pre.long)

pub put_sheet-requires : goal.put_sheet-requires
put_sheet-requires c =
    let pre = c.requires in
    textable _ _ pre.whole pre c.put_coordinates.ensures

pub returns : goal.returns
returns c =
    let pre = c.requires in
    sheeted_as (placed_text _ _ pre.whole pre c.put_coordinates.ensures _) c.put_sheet.ensures
