-- `labelled::label_panel` meets its contract: after i faces these are labelled. Assumes nothing.
use Rattle.labelled.proofs.Labels.{Marking}
use Rattle.labelled.proofs.label_panel.Given as goal

abbrev pub invariant-loop-x : goal.invariant-loop-x
invariant-loop-x l = Marking l.part l.label l.initial.out l.out l.x-index
