-- What is said of the first corners is stored.
use Rattle.written.specs.Pieces.{corner_bytes}
use Rattle.saving.proofs.Listing.{Putting}
use Rattle.saving.proofs.bytes.put_corners.Given as goal

abbrev pub invariant-loop-corner : goal.invariant-loop-corner
invariant-loop-corner l = Putting (corner_bytes l.marked) l.corners l.initial.out l.out l.at l.to l.corner-index
