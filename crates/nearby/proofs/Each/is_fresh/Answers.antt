-- The tests, one after the other. Assumes nothing.
use Rattle.std.proofs.Common.{sym, ◌∙◌}
use Rattle.nearby.proofs.Beside.{and_then, and_else}
use Rattle.nearby.proofs.Fresh.{not_fresh, fresh_by}
use Rattle.nearby.proofs.Each.is_fresh.Goals as goal
use Rattle.nearby.proofs.Each.is_fresh.Goals.{then-is_beside_at, else-is_beside_at}

pub returns-then-not-seen-j : goal.returns-then-not-seen-j
returns-then-not-seen-j c =
    let p = c.args.self.now in
    fresh_by p.t p.w p.s.now p.cells.now c.args.seen.now c.args.i c.args.j _
    (elim c.if-is_beside_at.branch [
      | then-is_beside_at w ↦ and_then (sym c.is_beside_at.ensures ∙ w.if-is_beside_at.true) w.value-is
      | else-is_beside_at w ↦ and_else _ (sym c.is_beside_at.ensures ∙ w.if-is_beside_at.false) (w.value-is ∙ c.is_beside_at.ensures)
    ])
    c.if-not-seen-j.true _ _ _ c.attr_at.ensures c.attr_at-then-not-seen-j.ensures c.distance2.ensures

pub returns-else-not-seen-j : goal.returns-else-not-seen-j
returns-else-not-seen-j c =
    let p = c.args.self.now in
    not_fresh p.t p.w p.s.now p.cells.now c.args.seen.now c.args.i c.args.j _
    (elim c.if-is_beside_at.branch [
      | then-is_beside_at w ↦ and_then (sym c.is_beside_at.ensures ∙ w.if-is_beside_at.true) w.value-is
      | else-is_beside_at w ↦ and_else _ (sym c.is_beside_at.ensures ∙ w.if-is_beside_at.false) (w.value-is ∙ c.is_beside_at.ensures)
    ])
    c.if-not-seen-j.false
