-- The tests of the axes, one after the other. Assumes nothing.
use Rattle.std.proofs.Common.{sym, ◌∙◌}
use Rattle.nearby.proofs.Beside.{and_then, and_else, apart, on_two, on_three}
use Rattle.nearby.proofs.is_beside_at.Goals as goal
use Rattle.nearby.proofs.is_beside_at.Goals.{then-is_beside, else-is_beside}

pub returns-then-w-eq-TEXEL_WIDTH : goal.returns-then-w-eq-TEXEL_WIDTH
returns-then-w-eq-TEXEL_WIDTH c =
    let pre = c.requires in
    on_two _ _ _ pre.0 _ _ pre.1 pre.2 _
    (elim c.if-is_beside.branch [
      | then-is_beside w ↦ and_then (sym c.is_beside.ensures ∙ w.if-is_beside.true) (w.value-is ∙ w.is_beside-then-is_beside.ensures)
      | else-is_beside w ↦ and_else _ (sym c.is_beside.ensures ∙ w.if-is_beside.false) (w.value-is ∙ c.is_beside.ensures)
    ])
    c.if-is_beside-2.true c.if-w-eq-TEXEL_WIDTH.true

pub returns-else-w-eq-TEXEL_WIDTH : goal.returns-else-w-eq-TEXEL_WIDTH
returns-else-w-eq-TEXEL_WIDTH c =
    let pre = c.requires in
    c.is_beside-else-w-eq-TEXEL_WIDTH.ensures ∙ on_three _ _ _ pre.0 _ _ pre.1 pre.2 _
    (elim c.if-is_beside.branch [
      | then-is_beside w ↦ and_then (sym c.is_beside.ensures ∙ w.if-is_beside.true) (w.value-is ∙ w.is_beside-then-is_beside.ensures)
      | else-is_beside w ↦ and_else _ (sym c.is_beside.ensures ∙ w.if-is_beside.false) (w.value-is ∙ c.is_beside.ensures)
    ])
    c.if-is_beside-2.true c.if-w-eq-TEXEL_WIDTH.false

pub returns-else-is_beside-2 : goal.returns-else-is_beside-2
returns-else-is_beside-2 c =
    let pre = c.requires in
    apart _ _ _ pre.0 _ _ pre.1 pre.2 _
    (elim c.if-is_beside.branch [
      | then-is_beside w ↦ and_then (sym c.is_beside.ensures ∙ w.if-is_beside.true) (w.value-is ∙ w.is_beside-then-is_beside.ensures)
      | else-is_beside w ↦ and_else _ (sym c.is_beside.ensures ∙ w.if-is_beside.false) (w.value-is ∙ c.is_beside.ensures)
    ])
    c.if-is_beside-2.false
