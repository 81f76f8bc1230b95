-- The mesh's own number, or the verdict of a mesh that is accepted. Assumes nothing.
use Rattle.std.proofs.Common.{sym, ◌∙◌}
use Rattle.mesh.specs.Mesh.{mesh_of}
use Rattle.edges.proofs.Answering.{edged, judged_refused, judged_found}
use Rattle.edges.proofs.shell_condition.Goals as goal

pub returns-then-number-ne0 : goal.returns-then-number-ne0
returns-then-number-ne0 c = judged_refused _ _ c.number-number.ensures c.if-number-ne0.true

pub verdict_of-requires : goal.verdict_of-requires
verdict_of-requires c =
    edged
    (mesh_of c.args.positions.now c.args.textures.now c.args.normals.now c.args.corners.now c.args.sizes.now)
    (sym c.number-number.ensures ∙ c.if-number-ne0.false)

pub returns : goal.returns
returns c =
    judged_found
    (mesh_of c.args.positions.now c.args.textures.now c.args.normals.now c.args.corners.now
    c.args.sizes.now) _ _ c.number-number.ensures c.if-number-ne0.false c.verdict_of.ensures
