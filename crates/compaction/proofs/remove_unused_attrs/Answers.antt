-- Each refusal is a row of the table, and what is left is `compact`. Assumes nothing.
use Rattle.std.proofs.Common.{sym}
use Rattle.std.proofs.lemmas.Result.{err_from_is_err_and}
use Rattle.mesh.specs.Seen.{seen}
use Rattle.mesh.specs.declared.refusal.Refusal.TheVariants.{Room}
use Rattle.mesh.proofs.Refusals.{number_not_0}
use Rattle.unused.proofs.Answer.{refused_of, refused_mesh, refused_corners, refused_positions, refused_textures, refused_normals, ready, done}
use Rattle.compaction.proofs.remove_unused_attrs.Goals as goal
use Rattle.compaction.proofs.remove_unused_attrs.Goals.{then-newcorners-mesh-via-then-newcorners-mesh, then-newcorners-mesh-via-else-newcorners-mesh+then-newpositions-mesh, then-newcorners-mesh-via-else-newcorners-mesh+else-newpositions-mesh+then-newtextures-mesh, then-newcorners-mesh-via-else-newcorners-mesh+else-newpositions-mesh+else-newtextures-mesh+then-newnormals-mesh}

pub returns-in_err-check : goal.returns-in_err-check
returns-in_err-check c =
    let p = err_from_is_err_and c.from_residual.result c.from_residual.ensures.1 in
    rw (p.1, p.2) (refused_mesh _ _ _ _ c.in_err-check.ensures (number_not_0 c.in_err-check.field-0.0) (refused_of c.in_err-check.field-0.0))

pub returns-then-newcorners-mesh : goal.returns-then-newcorners-mesh
returns-then-newcorners-mesh c =
    let m = seen c.args.mesh.now in
    let clear = sym c.in_ok-check.ensures in
    elim c.then-newcorners-mesh.branch [
      | then-newcorners-mesh-via-then-newcorners-mesh w ↦ refused_corners m _ _ clear w.if-newcorners-mesh.true (refused_of Room)
      | then-newcorners-mesh-via-else-newcorners-mesh+then-newpositions-mesh w ↦
          refused_positions m _ _ clear w.if-newcorners-mesh.false w.if-newpositions-mesh.true (refused_of Room)
      | then-newcorners-mesh-via-else-newcorners-mesh+else-newpositions-mesh+then-newtextures-mesh w ↦
          refused_textures m _ _ clear w.if-newcorners-mesh.false w.if-newpositions-mesh.false w.if-newtextures-mesh.true (refused_of Room)
      | then-newcorners-mesh-via-else-newcorners-mesh+else-newpositions-mesh+else-newtextures-mesh+then-newnormals-mesh w ↦
          refused_normals m _ _ clear w.if-newcorners-mesh.false w.if-newpositions-mesh.false w.if-newtextures-mesh.false w.if-newnormals-mesh.true (refused_of Room)
    ]

pub compact-requires : goal.compact-requires
compact-requires c =
    ready (seen c.args.mesh.now) _ (sym c.in_ok-check.ensures) c.if-newcorners-mesh.false c.if-newpositions-mesh.false c.if-newtextures-mesh.false
    c.if-newnormals-mesh.false

pub returns : goal.returns
returns c =
    let clear = sym c.in_ok-check.ensures in
    done (seen c.args.mesh.now) _ _ _ clear
    (ready (seen c.args.mesh.now) _ clear c.if-newcorners-mesh.false c.if-newpositions-mesh.false c.if-newtextures-mesh.false c.if-newnormals-mesh.false)
    c.compact.ensures
