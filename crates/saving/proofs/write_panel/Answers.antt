-- `saving::write_panel` meets its contract: a mesh whose number is 0 can be written. Assumes nothing.
use mathlib.Core.Path.{sym, ◌∙◌}
use native.Mathlib.Nat.{zero-add}
use Rattle.written.proofs.Numbers.{ready, call_refused, call_done}
use Rattle.saving.proofs.write_panel.Goals as goal

pub returns-then-number-ne0 : goal.returns-then-number-ne0
returns-then-number-ne0 c =
    call_refused _ _ _ c.number-number.ensures c.if-number-ne0.true

pub put_mesh-length-requires : goal.put_mesh-length-requires
put_mesh-length-requires c =
    ready _ _ (sym c.number-number.ensures ∙ c.if-number-ne0.false)

pub returns : goal.returns
returns c =
    let stored = c.put_mesh-length.ensures in
    call_done _ _ _ _ (sym (sym c.number-number.ensures ∙ c.if-number-ne0.false)) stored.file (stored.place ∙ zero-add _)
