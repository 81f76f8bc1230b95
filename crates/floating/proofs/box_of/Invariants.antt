-- The first i points are in the box. Assumes nothing.
use Rattle.floating.proofs.Boxes.{Boxing}
use Rattle.floating.proofs.box_of.Given as goal

abbrev pub invariant-loop-i : goal.invariant-loop-i
invariant-loop-i l = Boxing l.positions l.b l.i
