-- Each row of the table is asked where those before it say nothing. Assumes nothing.
use Rattle.std.proofs.Common.{sym, ◌∙◌}
use Rattle.mesh.specs.Mesh.{Mesh, mesh_of}
use Rattle.together.specs.Merging.{any_boundless, any_distant}
use Rattle.together.proofs.Numbers.{by_mesh, by_6, by_7, by_8, by_9, by_0}
use Rattle.merging.proofs.number.Goals as goal

pub returns-then-number-ne0 : goal.returns-then-number-ne0
returns-then-number-ne0 c =
    let m : Mesh = mesh_of c.args.positions.now c.args.textures.now c.args.normals.now c.args.corners.now c.args.sizes.now in
    c.number-number.ensures ∙ by_mesh m c.args.tolerance c.args.room (λ e. c.if-number-ne0.true (c.number-number.ensures ∙ e))

pub returns-then-is_unfit : goal.returns-then-is_unfit
returns-then-is_unfit c =
    let m : Mesh = mesh_of c.args.positions.now c.args.textures.now c.args.normals.now c.args.corners.now c.args.sizes.now in
    by_6 m c.args.tolerance c.args.room (sym c.number-number.ensures ∙ c.if-number-ne0.false) (sym c.is_unfit.ensures ∙ c.if-is_unfit.true)

pub returns-then-any_boundless : goal.returns-then-any_boundless
unfolding any_boundless
returns-then-any_boundless c =
    let m : Mesh = mesh_of c.args.positions.now c.args.textures.now c.args.normals.now c.args.corners.now c.args.sizes.now in
    by_7 m c.args.tolerance c.args.room (sym c.number-number.ensures ∙ c.if-number-ne0.false) (sym c.is_unfit.ensures ∙ c.if-is_unfit.false)
    (sym c.any_boundless.ensures ∙ c.if-any_boundless.true)

pub returns-then-any_distant : goal.returns-then-any_distant
unfolding any_boundless any_distant
returns-then-any_distant c =
    let m : Mesh = mesh_of c.args.positions.now c.args.textures.now c.args.normals.now c.args.corners.now c.args.sizes.now in
    by_8 m c.args.tolerance c.args.room (sym c.number-number.ensures ∙ c.if-number-ne0.false) (sym c.is_unfit.ensures ∙ c.if-is_unfit.false)
    (sym c.any_boundless.ensures ∙ c.if-any_boundless.false) (sym c.any_distant.ensures ∙ c.if-any_distant.true)

pub returns-then-room-corners : goal.returns-then-room-corners
unfolding any_boundless any_distant
returns-then-room-corners c =
    let m : Mesh = mesh_of c.args.positions.now c.args.textures.now c.args.normals.now c.args.corners.now c.args.sizes.now in
    by_9 m c.args.tolerance c.args.room (sym c.number-number.ensures ∙ c.if-number-ne0.false) (sym c.is_unfit.ensures ∙ c.if-is_unfit.false)
    (sym c.any_boundless.ensures ∙ c.if-any_boundless.false) (sym c.any_distant.ensures ∙ c.if-any_distant.false) c.if-room-corners.true

pub returns : goal.returns
unfolding any_boundless any_distant
returns c =
    let m : Mesh = mesh_of c.args.positions.now c.args.textures.now c.args.normals.now c.args.corners.now c.args.sizes.now in
    by_0 m c.args.tolerance c.args.room (sym c.number-number.ensures ∙ c.if-number-ne0.false) (sym c.is_unfit.ensures ∙ c.if-is_unfit.false)
    (sym c.any_boundless.ensures ∙ c.if-any_boundless.false) (sym c.any_distant.ensures ∙ c.if-any_distant.false) c.if-room-corners.false
