-- `mesh::Mesh::shape` meets its contract, row by row. Assumes nothing.
use Rattle.std.proofs.Common.{sym, ◌∙◌}
use Rattle.mesh.specs.Table.{shape_number, misfit, ungrouped}
use Rattle.mesh.proofs.Accepted.{within}
use Rattle.mesh.proofs.Mesh.shape.Goals as goal

pub returns-then-is_over_limits : goal.returns-then-is_over_limits
unfolding shape_number
returns-then-is_over_limits c = rw (sym c.is_over_limits.ensures ∙ c.if-is_over_limits.true)

pub is_uneven-requires : goal.is_uneven-requires
is_uneven-requires c = (within _ (sym c.is_over_limits.ensures ∙ c.if-is_over_limits.false)).sizes

pub returns-then-is_uneven : goal.returns-then-is_uneven
unfolding shape_number
returns-then-is_uneven c = rw (sym c.is_over_limits.ensures ∙ c.if-is_over_limits.false, sym c.is_uneven.ensures ∙ c.if-is_uneven.true)

pub returns-then-misfit : goal.returns-then-misfit
unfolding shape_number misfit
returns-then-misfit c =
    let over = sym c.is_over_limits.ensures ∙ c.if-is_over_limits.false in
    let odd = sym c.is_uneven.ensures ∙ c.if-is_uneven.false in
    rw (over, odd, sym c.misfit.ensures ∙ c.if-misfit.true)

pub returns-then-ungrouped : goal.returns-then-ungrouped
unfolding shape_number misfit ungrouped
returns-then-ungrouped c =
    let over = sym c.is_over_limits.ensures ∙ c.if-is_over_limits.false in
    let odd = sym c.is_uneven.ensures ∙ c.if-is_uneven.false in
    let size = sym c.misfit.ensures ∙ c.if-misfit.false in
    rw (over, odd, size, sym c.ungrouped.ensures ∙ c.if-ungrouped.true)

pub returns : goal.returns
unfolding shape_number misfit ungrouped
returns c =
    let over = sym c.is_over_limits.ensures ∙ c.if-is_over_limits.false in
    let odd = sym c.is_uneven.ensures ∙ c.if-is_uneven.false in
    let size = sym c.misfit.ensures ∙ c.if-misfit.false in
    rw (over, odd, size, sym c.ungrouped.ensures ∙ c.if-ungrouped.false)
