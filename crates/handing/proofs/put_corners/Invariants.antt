-- `handing::put_corners` meets its contract: one corner more at a time. Assumes nothing.
use Rattle.handing.proofs.Bare.{Cornering}
use Rattle.handing.proofs.put_corners.Given as goal

abbrev pub invariant-loop-x : goal.invariant-loop-x
invariant-loop-x l = Cornering l.numbers l.initial.corners l.corners l.x
