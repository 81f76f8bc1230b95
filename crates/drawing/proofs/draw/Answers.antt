-- `drawing::draw` meets its contract: the number at the end is the file's, and where it is 0 its mesh stands in the lists (`Calling`).
-- Assumes nothing.
use mathlib.Core.Path.{sym, ◌∙◌}
use Rattle.drawing.proofs.Calling.{drawn_refused, drawn_done}
use Rattle.drawing.proofs.draw.Goals as goal

pub returns-then-number-ne0 : goal.returns-then-number-ne0
returns-then-number-ne0 c = drawn_refused _ c.if-number-ne0.true c.number_at_end-number.ensures _ c.refused.ensures

pub returns : goal.returns
returns c = drawn_done _ (sym c.if-number-ne0.false ∙ c.number_at_end-number.ensures) c.gather.ensures
