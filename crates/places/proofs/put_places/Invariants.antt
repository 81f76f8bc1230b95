-- The corners at the places before place k are written. Assumes nothing.
use Rattle.places.proofs.Filling.{Placing}
use Rattle.places.proofs.put_places.Given as goal

abbrev pub invariant-loop-k : goal.invariant-loop-k
invariant-loop-k l = Placing l.face l.places l.initial.out l.out l.at l.k
