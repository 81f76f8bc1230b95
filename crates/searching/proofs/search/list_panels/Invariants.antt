-- After i faces the panels of the faces below i are listed. Assumes nothing.
use Rattle.connected.proofs.Listed.{PanellingOn}
use Rattle.searching.proofs.search.list_panels.Given as goal

abbrev pub invariant-loop-i : goal.invariant-loop-i
invariant-loop-i l = PanellingOn l.joins l.ends l.fn.flat l.fn.lengths l.seen l.stack l.flat l.lengths l.counts.faces l.counts.panels l.i
