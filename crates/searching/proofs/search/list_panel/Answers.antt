-- Face i is in a panel, or its panel is listed behind those that are. Assumes nothing.
use Rattle.connected.proofs.Listed.{panel_stays, panel_grows}
use Rattle.searching.proofs.search.list_panel.Goals as goal

pub returns-then-seen-i-ne0 : goal.returns-then-seen-i-ne0
returns-then-seen-i-ne0 c =
    panel_stays _ _ _ _ _ _ _ _ _ c.requires.panelling c.requires.is_face c.if-seen-i-ne0.true

pub returns : goal.returns
returns c =
    panel_grows _ _ _ _ _ _ _ _ _ c.requires.panelling c.requires.is_face _ _ _ _ c.if-seen-i-ne0.false c.search-m.ensures
