-- `saving::bytes::put_entry` meets its contract: a header and the coordinates. Assumes nothing.
use Rattle.written.proofs.Lengths.{length_entry}
use Rattle.saving.proofs.Entries.{coordinates_fit, entry_stored}
use native.Mathlib.Omega.{arith}
use borrow.Author.Rules.{rules}
use Rattle.saving.proofs.bytes.put_entry.Goals as goal

pub put_header-a-requires : goal.put_header-a-requires
put_header-a-requires c =
    omega (arith, c.requires.fits, length_entry c.args.kind c.args.part.now)

pub put_coordinates-requires : goal.put_coordinates-requires
put_coordinates-requires c =
    coordinates_fit _ _ _ _ _ _ c.put_header-a.ensures c.requires (search rules)

pub returns : goal.returns
returns c =
    entry_stored _ _ _ _ _ _ c.put_header-a.ensures _ _ c.put_coordinates.ensures
