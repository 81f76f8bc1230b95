-- `mesh::Mesh::check` meets its contract: rows 1 to 4 first, then row 5, for which rows 1 to 4 have shown that the corners are whole. Assumes nothing.
use Rattle.std.proofs.Common.{sym, ◌∙◌}
use Rattle.std.proofs.lemmas.Result.{err_from_is_err_and}
use Rattle.mesh.specs.Seen.{seen}
use Rattle.mesh.specs.Table.{mesh_number}
use Rattle.mesh.proofs.Refusals.{number_not_0}
use Rattle.mesh.proofs.Numbers.{shaped, shape_first}
use Rattle.mesh.proofs.Accepted.{even}
use Rattle.mesh.proofs.Mesh.check.Goals as goal

pub returns-in_err-shape : goal.returns-in_err-shape
returns-in_err-shape c =
    let p = err_from_is_err_and c.from_residual.result c.from_residual.ensures.1 in
    rw (p.1, p.2)
    (c.in_err-shape.ensures ∙ sym (shape_first (seen c.args.self.now) (λ e. number_not_0 c.in_err-shape.field-0.0 (c.in_err-shape.ensures ∙ e))))

pub is_astray-requires : goal.is_astray-requires
is_astray-requires c = (even _ (shaped (seen c.args.self.now) (sym c.in_ok-shape.ensures)).even).corners

pub returns-then-is_astray : goal.returns-then-is_astray
unfolding mesh_number
returns-then-is_astray c = rw (sym c.in_ok-shape.ensures, sym c.is_astray.ensures ∙ c.if-is_astray.true)

pub returns : goal.returns
unfolding mesh_number
returns c = rw (sym c.in_ok-shape.ensures, sym c.is_astray.ensures ∙ c.if-is_astray.false)
