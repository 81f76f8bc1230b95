-- `appearing::number_marks` meets its contract: one mark more at a time. Assumes nothing.
use Rattle.appearing.proofs.Passing.{Passing}
use Rattle.appearing.proofs.number_marks.Given as goal

abbrev pub invariant-loop-x : goal.invariant-loop-x
invariant-loop-x l = Passing l.initial.numbers l.numbers l.x l.found
