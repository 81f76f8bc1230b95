use Rattle.std.proofs.Common.{[], sym, ◌∙◌}
use Rattle.smoothed.specs.Refusals.{unfit_list}
use Rattle.mesh.specs.Mesh.{mesh_of}
use Rattle.lists.proofs.Bools.{or_left, or_right}
use Rattle.mesh.proofs.Edges.{edged}
use Rattle.smoothable.proofs.Rows.{early_mesh, early_7, early_15, early_16, early_10, early_17, early_0, triangular}
use Rattle.smoothable.proofs.number.Goals as goal
use Rattle.smoothable.proofs.number.Goals.{then-unfit_list-via-then-unfit_list, then-unfit_list-via-else-unfit_list+then-unfit_list-2}

pub returns-then-number-ne0 : goal.returns-then-number-ne0
returns-then-number-ne0 c = early_mesh _ _ _ _ c.number-number.ensures c.if-number-ne0.true

pub returns-then-boundless_position : goal.returns-then-boundless_position
returns-then-boundless_position c =
    let ok = sym c.number-number.ensures ∙ c.if-number-ne0.false in
    early_7 _ _ _ ok (sym c.boundless_position.ensures ∙ c.if-boundless_position.true)

pub returns-then-other_face : goal.returns-then-other_face
returns-then-other_face c =
    let ok = sym c.number-number.ensures ∙ c.if-number-ne0.false in
    let bounded = sym c.boundless_position.ensures ∙ c.if-boundless_position.false in
    early_15 _ _ _ ok bounded (sym c.other_face.ensures ∙ c.if-other_face.true)

pub folded_or_idle-requires : goal.folded_or_idle-requires
folded_or_idle-requires c =
    let ok = sym c.number-number.ensures ∙ c.if-number-ne0.false in
    let bounded = sym c.boundless_position.ensures ∙ c.if-boundless_position.false in
    let three = sym c.other_face.ensures ∙ c.if-other_face.false in
    triangular (mesh_of c.args.positions.now c.args.textures.now c.args.normals.now c.args.corners.now c.args.sizes.now) [] [] ok bounded three

pub returns-then-folded_or_idle : goal.returns-then-folded_or_idle
returns-then-folded_or_idle c =
    let ok = sym c.number-number.ensures ∙ c.if-number-ne0.false in
    let bounded = sym c.boundless_position.ensures ∙ c.if-boundless_position.false in
    let three = sym c.other_face.ensures ∙ c.if-other_face.false in
    early_16 _ _ _ ok bounded three (sym c.folded_or_idle.ensures ∙ c.if-folded_or_idle.true)

pub unoriented-requires : goal.unoriented-requires
unoriented-requires c =
    let ok = sym c.number-number.ensures ∙ c.if-number-ne0.false in
    edged (mesh_of c.args.positions.now c.args.textures.now c.args.normals.now c.args.corners.now c.args.sizes.now) ok

pub returns-then-unoriented : goal.returns-then-unoriented
returns-then-unoriented c =
    let ok = sym c.number-number.ensures ∙ c.if-number-ne0.false in
    let bounded = sym c.boundless_position.ensures ∙ c.if-boundless_position.false in
    let three = sym c.other_face.ensures ∙ c.if-other_face.false in
    let unfolded = sym c.folded_or_idle.ensures ∙ c.if-folded_or_idle.false in
    early_10 _ _ _ ok bounded three unfolded (sym c.unoriented.ensures ∙ c.if-unoriented.true)

pub returns-then-unfit_list : goal.returns-then-unfit_list
returns-then-unfit_list c =
    let ok = sym c.number-number.ensures ∙ c.if-number-ne0.false in
    let bounded = sym c.boundless_position.ensures ∙ c.if-boundless_position.false in
    let three = sym c.other_face.ensures ∙ c.if-other_face.false in
    let unfolded = sym c.folded_or_idle.ensures ∙ c.if-folded_or_idle.false in
    let in_order = sym c.unoriented.ensures ∙ c.if-unoriented.false in
    let ones = c.args.ones.now in
    elim c.then-unfit_list.branch [
      | then-unfit_list-via-then-unfit_list w ↦
          early_17 _ ones _ ok bounded three unfolded in_order (or_left _ _ (sym c.unfit_list.ensures ∙ w.if-unfit_list.true))
      | then-unfit_list-via-else-unfit_list+then-unfit_list-2 w ↦
          early_17 _ ones _ ok bounded three unfolded in_order
          (or_right (unfit_list ones) _ (sym w.unfit_list-else-unfit_list.ensures ∙ w.if-unfit_list-2.true))
    ]

pub returns : goal.returns
returns c =
    let ok = sym c.number-number.ensures ∙ c.if-number-ne0.false in
    let bounded = sym c.boundless_position.ensures ∙ c.if-boundless_position.false in
    let three = sym c.other_face.ensures ∙ c.if-other_face.false in
    let unfolded = sym c.folded_or_idle.ensures ∙ c.if-folded_or_idle.false in
    let in_order = sym c.unoriented.ensures ∙ c.if-unoriented.false in
    early_0 _ _ _ ok bounded three unfolded in_order (sym c.unfit_list.ensures ∙ c.if-unfit_list.false)
    (sym c.unfit_list-else-unfit_list.ensures ∙ c.if-unfit_list-2.false)
