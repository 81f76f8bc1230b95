-- `labelled::label_panels` meets its contract: the faces of the first j panels are labelled, and panel j starts at `from`. Assumes nothing.
use Rattle.labelled.proofs.Labels.{Labelling}
use Rattle.labelled.proofs.label_panels.Given as goal

abbrev pub invariant-loop-j : goal.invariant-loop-j
invariant-loop-j l = Labelling l.flat l.lengths l.initial.out l.out l.from l.j
