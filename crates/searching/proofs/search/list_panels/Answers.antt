-- After i faces the panels of the faces below i are listed. Assumes nothing.
use Rattle.connected.proofs.Listed.{list_begins, list_turns, list_ends}
use Rattle.searching.proofs.search.list_panels.Goals as goal

pub loop-i-init : goal.loop-i-init
loop-i-init c = list_begins _ _ _ _ _ _ _ c.requires

pub loop-i-preserved : goal.loop-i-preserved
loop-i-preserved c =
    list_turns _ _ _ _ _ _ _ _ _ _ _ _ _ _ _ _ _ c.loop-i-test.true c.list_panel-counts.auto.flat c.list_panel-counts.auto.lengths
    c.list_panel-counts.ensures c.loop-i.invariant

pub returns : goal.returns
returns c = list_ends _ _ _ _ _ _ _ _ _ _ _ c.loop-i-test.false c.loop-i.invariant
