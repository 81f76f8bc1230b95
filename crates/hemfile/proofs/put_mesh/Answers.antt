-- `put_mesh` meets its contract: there is not one whole triple for each position, or the sheet is that of the mesh and its coordinates
-- (`Printing`). Assumes nothing.
use borrow.Author.Rules.{rules}
use lib.Seq.{length-take-le}
use Rattle.hemtext.proofs.Texts.{sheeted_as}
use Rattle.hemfile.proofs.Printing.{cut_text}
use Rattle.hemfile.proofs.put_mesh.Goals as goal

pub returns-then-bytes-positions : goal.returns-then-bytes-positions
returns-then-bytes-positions c = sheeted_as (cut_text _ _ _ c.if-bytes-positions.true) c.put_refusal.ensures

pub put_placed-requires : goal.put_placed-requires
put_placed-requires c =
    record {
      printable = c.requires;
      whole = c.if-bytes-positions.false;
      long = length-take-le _ _ (search rules);
    }

pub returns : goal.returns
returns c = c.put_placed.ensures
