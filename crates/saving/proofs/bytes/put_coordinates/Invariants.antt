-- The bytes of the first numbers are stored.
use Rattle.written.specs.Pieces.{coordinate_bytes}
use Rattle.saving.proofs.Listing.{Putting}
use Rattle.saving.proofs.bytes.put_coordinates.Given as goal

abbrev pub invariant-loop-x : goal.invariant-loop-x
invariant-loop-x l = Putting coordinate_bytes l.s l.initial.out l.out l.at l.to l.x-index
