-- `saving::bytes::put_coordinates` meets its contract: the bytes of the first coordinates are stored, each of them finite. Assumes nothing.
use mathlib.Core.Path.{refl}
use lib.Ieee.{nan}
use Rattle.lists.proofs.Parts.{every_at}
use Rattle.floating.specs.Limits.{finite}
use Rattle.floating.proofs.Finite.{no_nan}
use Rattle.written.specs.Pieces.{coordinate_bytes}
use Rattle.saving.proofs.Storing.{coordinate_stored}
use Rattle.saving.proofs.Listing.{putting_turns, coordinate_room}
use Rattle.saving.proofs.bytes.put_coordinates.Goals as goal

pub float_to_bits-x : goal.float_to_bits-x
float_to_bits-x c = no_nan _ (every_at finite nan c.args.s.now _ c.requires.are_finite c.loop-x-test.true)

pub put_long-requires : goal.put_long-requires
put_long-requires c = coordinate_room _ _ _ _ _ _ c.loop-x-test.true c.loop-x.invariant c.requires.fits

pub loop-x-preserved : goal.loop-x-preserved
loop-x-preserved c =
    putting_turns coordinate_bytes nan _ _ _ _ _ _ _ c.loop-x-test.true refl c.loop-x.invariant _ _ (coordinate_stored _ _ _ _ _ refl c.put_long.ensures)
