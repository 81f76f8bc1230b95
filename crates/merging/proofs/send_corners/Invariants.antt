-- `merging::send_corners` meets its contract, by the laws of `Corners`. Assumes nothing.
use Rattle.together.proofs.Corners.{Writing}
use Rattle.merging.proofs.send_corners.Given as goal

abbrev pub invariant-loop-k : goal.invariant-loop-k
invariant-loop-k l = Writing l.corners l.pmap l.tmap l.nmap l.initial.out l.out l.k
