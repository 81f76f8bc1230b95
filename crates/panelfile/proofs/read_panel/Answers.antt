-- `panelfile::read_panel` meets its contract: rooms first, then the number at the end, then the mesh. Assumes nothing.
use mathlib.Core.Path.{sym, ◌∙◌}
use Rattle.reading.proofs.Ending.{not_short}
use Rattle.reading.proofs.Calling.{call_short, call_refused, call_done}
use Rattle.panelfile.proofs.read_panel.Goals as goal

pub returns-then-is_short : goal.returns-then-is_short
returns-then-is_short c = call_short _ _ (sym c.is_short.ensures ∙ c.if-is_short.true) _ c.refused.ensures

pub returns-then-number-ne0 : goal.returns-then-number-ne0
returns-then-number-ne0 c =
    call_refused _ _ (sym c.is_short.ensures ∙ c.if-is_short.false) _ c.if-number-ne0.true c.number_at_end-number.ensures _ c.refused-then-number-ne0.ensures

pub hand_over-requires : goal.hand_over-requires
hand_over-requires c =
    (c.read_records-x.ensures, not_short _ _ _ _ _ (sym c.is_short.ensures ∙ c.if-is_short.false))

pub returns : goal.returns
returns c =
    call_done _ _ _ _ (sym c.is_short.ensures ∙ c.if-is_short.false) (sym c.if-number-ne0.false ∙ c.number_at_end-number.ensures) c.hand_over.ensures
