-- `smoothing::loop_subdivision` meets its contract: refused by what is given, or what a checked mesh comes to. Assumes nothing.
use Rattle.std.proofs.Common.{sym, ◌∙◌}
use Rattle.mesh.specs.Mesh.{mesh_of}
use Rattle.smoothing.proofs.Answer.{refused_early, now_checked, answered}
use Rattle.smoothing.proofs.loop_subdivision.Goals as goal

pub returns-then-number-ne0 : goal.returns-then-number-ne0
returns-then-number-ne0 c = refused_early _ _ _ _ _ _ c.number-number.ensures c.if-number-ne0.true c.refused.ensures

pub smooth-requires : goal.smooth-requires
smooth-requires c =
    let mesh = mesh_of c.args.positions.now c.args.textures.now c.args.normals.now c.args.corners.now c.args.sizes.now in
    now_checked mesh c.args.ones.now c.args.twos.now (sym c.number-number.ensures ∙ c.if-number-ne0.false)

pub returns : goal.returns
returns c =
    answered _ _ _ _ _ (sym c.number-number.ensures ∙ c.if-number-ne0.false) _ c.smooth.ensures
