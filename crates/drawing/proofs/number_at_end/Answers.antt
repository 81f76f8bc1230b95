-- `drawing::number_at_end` meets its contract: row by row; the indices are looked at over the corners of all faces that are kept. Assumes nothing.
use mathlib.Core.Path.{sym, ◌∙◌}
use Rattle.drawing.proofs.Fronts.{own_astray}
use Rattle.drawing.proofs.Ending.{end_refused, end_follows, end_astray, end_well}
use Rattle.drawing.proofs.number_at_end.Goals as goal

pub returns-then-x-ne0 : goal.returns-then-x-ne0
returns-then-x-ne0 c = end_refused _ _ _ c.requires c.if-x-ne0.true

pub returns-then-x-file : goal.returns-then-x-file
returns-then-x-file c = end_follows _ _ _ c.requires c.if-x-ne0.false c.if-x-file.true

pub returns-then-astray : goal.returns-then-astray
returns-then-astray c =
    end_astray _ _ _ c.requires c.if-x-ne0.false c.if-x-file.false (sym (own_astray _ _ _ c.requires) ∙ sym c.astray.ensures ∙ c.if-astray.true)

pub returns : goal.returns
returns c =
    end_well _ _ _ c.requires c.if-x-ne0.false c.if-x-file.false (sym (own_astray _ _ _ c.requires) ∙ sym c.astray.ensures ∙ c.if-astray.false)
