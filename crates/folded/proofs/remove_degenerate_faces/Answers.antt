-- Each way out gives its row of the table, and 0 the faces that are left. Assumes nothing.
use Rattle.std.proofs.Common.{sym, refl}
use Rattle.std.proofs.lemmas.Result.{err_from_is_err_and}
use Rattle.mesh.specs.Seen.{seen}
use Rattle.mesh.proofs.Refusals.{number_not_0}
use Rattle.removal.proofs.Answer.{refused_mesh, refused_corners, refused_sizes, refused_origins, given, done}
use Rattle.folded.proofs.remove_degenerate_faces.Goals as goal
use Rattle.folded.proofs.remove_degenerate_faces.Goals.{then-newcorners-mesh-via-then-newcorners-mesh, then-newcorners-mesh-via-else-newcorners-mesh+then-newsizes-faces, then-newcorners-mesh-via-else-newcorners-mesh+else-newsizes-faces+then-origins-faces}

pub returns-in_err-check : goal.returns-in_err-check
returns-in_err-check c =
    let p = err_from_is_err_and c.from_residual.result c.from_residual.ensures.1 in
    rw (p.1, p.2) (refused_mesh _ _ _ _ _ _ c.in_err-check.ensures (number_not_0 c.in_err-check.field-0.0) refl)

pub returns-then-newcorners-mesh : goal.returns-then-newcorners-mesh
returns-then-newcorners-mesh c =
    let m = seen c.args.mesh.now in
    let clear = sym c.in_ok-check.ensures in
    elim c.then-newcorners-mesh.branch [
      | then-newcorners-mesh-via-then-newcorners-mesh w ↦ refused_corners m _ _ _ _ clear w.if-newcorners-mesh.true refl
      | then-newcorners-mesh-via-else-newcorners-mesh+then-newsizes-faces w ↦
          refused_sizes m _ _ _ _ clear w.if-newcorners-mesh.false w.if-newsizes-faces.true refl
      | then-newcorners-mesh-via-else-newcorners-mesh+else-newsizes-faces+then-origins-faces w ↦
          refused_origins m _ _ _ _ clear w.if-newcorners-mesh.false w.if-newsizes-faces.false w.if-origins-faces.true refl
    ]

pub remove-requires : goal.remove-requires
remove-requires c =
    given (seen c.args.mesh.now) _ _ _ (sym c.in_ok-check.ensures) c.if-newcorners-mesh.false c.if-newsizes-faces.false c.if-origins-faces.false

pub returns : goal.returns
returns c =
    done (seen c.args.mesh.now) _ _ _ (sym c.in_ok-check.ensures) c.if-newcorners-mesh.false c.if-newsizes-faces.false c.if-origins-faces.false _ _ _ _ _
    c.remove.ensures
