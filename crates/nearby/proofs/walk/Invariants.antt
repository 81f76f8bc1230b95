-- The groups of the points below k are laid out. Assumes nothing.
use Rattle.nearby.proofs.Gathering.{Gathering}
use Rattle.nearby.proofs.walk.Given as goal

abbrev pub invariant-loop-k : goal.invariant-loop-k
invariant-loop-k g l =
    Gathering (g.N.Neighbours.near l.points) (g.N.Neighbours.count l.points) l.order l.ends l.seen l.taken l.count l.k
