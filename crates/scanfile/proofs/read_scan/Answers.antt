-- `scanfile::read_scan` meets its contract: rooms first, then the length, then the points. Assumes nothing.
use mathlib.Core.Path.{sym, ◌∙◌}
use Rattle.scanfile.proofs.Reading.{room_of}
use Rattle.scanfile.proofs.Answers.{call_short, call_refused, call_read}
use Rattle.scanfile.proofs.read_scan.Goals as goal

pub returns-then-is_short : goal.returns-then-is_short
returns-then-is_short c = call_short _ _ (sym c.is_short.ensures ∙ c.if-is_short.true) _ c.refused.ensures

pub returns-then-number-ne0 : goal.returns-then-number-ne0
returns-then-number-ne0 c =
    call_refused _ _ (sym c.is_short.ensures ∙ c.if-is_short.false) _ c.if-number-ne0.true c.length_number-number.ensures _
    c.refused-then-number-ne0.ensures

pub read_points-requires : goal.read_points-requires
read_points-requires c =
    let a = c.args in
    room_of _ _ a.textures.now a.normals.now _ _ (sym c.is_short.ensures ∙ c.if-is_short.false)
    (sym c.if-number-ne0.false ∙ c.length_number-number.ensures)

pub returns : goal.returns
returns c =
    call_read _ _ _ _ _ _ _ _ _ _ (sym c.is_short.ensures ∙ c.if-is_short.false)
    (sym c.if-number-ne0.false ∙ c.length_number-number.ensures) c.read_points.ensures
