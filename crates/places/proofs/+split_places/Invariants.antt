-- The row of each call is shorter than its caller's. Assumes nothing.
use Rattle.std.proofs.Common.{length}
use Rattle.places.proofs.+split_places.Given as goal

abbrev pub decreases-split_places : goal.decreases-split_places
decreases-split_places l = length l.row.now
