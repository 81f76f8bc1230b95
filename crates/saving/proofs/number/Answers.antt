-- `saving::number` meets its contract: row after row. Assumes nothing.
use mathlib.Core.Bool.{not}
use mathlib.Core.Path.{sym, ◌∙◌, ap}
use Rattle.written.proofs.Numbers.{number_first, number_broken, number_short, number_well}
use borrow.Author.Tests.{not-true, not-false}
use Rattle.saving.proofs.number.Goals as goal

pub returns-then-number-ne0 : goal.returns-then-number-ne0
returns-then-number-ne0 c =
    number_first _ _ _ c.number-number.ensures c.if-number-ne0.true

pub returns-then-not-are_finite : goal.returns-then-not-are_finite
returns-then-not-are_finite c =
    number_broken _ _ (sym c.number-number.ensures ∙ c.if-number-ne0.false) (sym c.are_finite.ensures ∙ not-true _ (ap not c.if-not-are_finite.true))

pub file_length-requires : goal.file_length-requires
file_length-requires c =
    sym c.number-number.ensures ∙ c.if-number-ne0.false

pub returns-then-room-file_length : goal.returns-then-room-file_length
returns-then-room-file_length c =
    number_short _ _ (sym c.number-number.ensures ∙ c.if-number-ne0.false) (sym c.are_finite.ensures ∙ not-false _ (ap not c.if-not-are_finite.false))
    (rw c.file_length.ensures at c.if-room-file_length.true)

pub returns : goal.returns
returns c =
    number_well _ _ (sym c.number-number.ensures ∙ c.if-number-ne0.false) (sym c.are_finite.ensures ∙ not-false _ (ap not c.if-not-are_finite.false))
    (rw c.file_length.ensures at c.if-room-file_length.false)
