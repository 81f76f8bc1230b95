-- What is reached from the place with the steps that are left is what is reached in all. Assumes nothing.
use Rattle.crossing.proofs.Follow.{Turning}
use Rattle.crossing.proofs.turn_from.Given as goal

abbrev pub invariant-loop : goal.invariant-loop
invariant-loop l = Turning l.after l.twins l.u l.place l.counter
