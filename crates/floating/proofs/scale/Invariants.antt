-- The first i points are scaled, in the box of all. Assumes nothing.
use Rattle.floating.proofs.Boxes.{Scaling}
use Rattle.floating.proofs.scale.Given as goal

abbrev pub invariant-loop-i : goal.invariant-loop-i
invariant-loop-i l = Scaling l.positions l.initial.out l.out l.i
