-- Each way out gives its row of the table, and 0 the grouped faces. Assumes nothing.
use Rattle.std.proofs.Common.{sym, refl}
use Rattle.std.proofs.lemmas.Result.{err_from_is_err_and}
use Rattle.mesh.proofs.Refusals.{number_not_0}
use Rattle.faces.proofs.Answer.{sound, refused_faces, refused_corners, refused_sizes, done}
use Rattle.faces.proofs.push.Goals as goal
use Rattle.faces.proofs.push.Goals.{then-newcorners-corners-via-then-newcorners-corners, then-newcorners-corners-via-else-newcorners-corners+then-newsizes-sizes}

pub returns-in_err-check : goal.returns-in_err-check
returns-in_err-check c =
    let p = err_from_is_err_and c.from_residual.result c.from_residual.ensures.1 in
    rw (p.1, p.2) (refused_faces _ _ _ _ _ _ c.in_err-check.ensures (number_not_0 c.in_err-check.field-0.0) refl)

pub returns-then-newcorners-corners : goal.returns-then-newcorners-corners
returns-then-newcorners-corners c =
    let clear = sym c.in_ok-check.ensures in
    elim c.then-newcorners-corners.branch [
      | then-newcorners-corners-via-then-newcorners-corners w ↦ refused_corners _ _ _ _ _ clear w.if-newcorners-corners.true refl
      | then-newcorners-corners-via-else-newcorners-corners+then-newsizes-sizes w ↦
          refused_sizes _ _ _ _ _ clear w.if-newcorners-corners.false w.if-newsizes-sizes.true refl
    ]

pub push_all-requires : goal.push_all-requires
push_all-requires c = (sound _ _ (sym c.in_ok-check.ensures), (c.if-newcorners-corners.false, c.if-newsizes-sizes.false))

pub returns : goal.returns
returns c = done _ _ _ _ (sym c.in_ok-check.ensures) c.if-newcorners-corners.false c.if-newsizes-sizes.false _ _ _ _ c.push_all.ensures
