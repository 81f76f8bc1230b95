-- One number more is put, and in the end all are. Assumes nothing.
use Rattle.lists.proofs.Listing.{listing_room, listing_turns, listing_ends}
use Rattle.text.proofs.Putting.{number_text, spaced_numbers}
use Rattle.text.proofs.put_numbers.Goals as goal

pub put_number-to-requires : goal.put_number-to-requires
put_number-to-requires c =
    rw c.from.ensures (listing_room 0 number_text _ _ _ _ _ _ c.loop-n-test.true (rw spaced_numbers at c.requires) c.loop-n.invariant)

pub loop-n-preserved : goal.loop-n-preserved
loop-n-preserved c =
    listing_turns 0 number_text _ _ _ _ _ _ _ _ c.loop-n-test.true c.loop-n.invariant (rw c.from.ensures at c.put_number-to.ensures)

pub returns : goal.returns
returns c = rw spaced_numbers (listing_ends 0 number_text _ _ _ _ _ _ c.loop-n-test.false c.loop-n.invariant)
