-- A refusal writes nothing and counts nothing; an accepted mesh with room has the panels that
-- `components_of` lists. Assumes nothing.
use Rattle.std.proofs.Common.{sym, ◌∙◌}
use Rattle.mesh.specs.Mesh.{mesh_of}
use Rattle.mesh.proofs.Accepted.{accepted}
use Rattle.panels.proofs.Refusing.{refused_mesh, refused_flat, refused_lengths}
use Rattle.panels.proofs.Whole.{panels_room, answered}
use Rattle.panels.proofs.components.Goals as goal
use Rattle.panels.proofs.components.Goals.{then-flat-room-via-then-flat-room, then-flat-room-via-else-flat-room+then-lengths-room}

pub returns-then-number-ne0 : goal.returns-then-number-ne0
returns-then-number-ne0 c =
    let mesh = mesh_of c.args.positions.now c.args.textures.now c.args.normals.now c.args.corners.now c.args.sizes.now in
    refused_mesh mesh c.args.use_normal _ _ _ _ c.number-number.ensures c.if-number-ne0.true c.refused.ensures

pub returns-then-flat-room : goal.returns-then-flat-room
returns-then-flat-room c =
    let mesh = mesh_of c.args.positions.now c.args.textures.now c.args.normals.now c.args.corners.now c.args.sizes.now in
    elim c.then-flat-room.branch [
      | then-flat-room-via-then-flat-room w ↦
          refused_flat mesh c.args.use_normal _ _ _ _ c.number-number.ensures c.if-number-ne0.false w.if-flat-room.true c.refused-then-flat-room.ensures
      | then-flat-room-via-else-flat-room+then-lengths-room w ↦
          refused_lengths mesh c.args.use_normal _ _ _ _ c.number-number.ensures c.if-number-ne0.false w.if-flat-room.false w.if-lengths-room.true
          c.refused-then-flat-room.ensures
    ]

pub components_of-counts-requires : goal.components_of-counts-requires
components_of-counts-requires c =
    let mesh = mesh_of c.args.positions.now c.args.textures.now c.args.normals.now c.args.corners.now c.args.sizes.now in
    panels_room mesh (accepted mesh (sym c.number-number.ensures ∙ c.if-number-ne0.false)) _ _ c.if-flat-room.false c.if-lengths-room.false

pub returns : goal.returns
returns c =
    let mesh = mesh_of c.args.positions.now c.args.textures.now c.args.normals.now c.args.corners.now c.args.sizes.now in
    answered mesh (accepted mesh (sym c.number-number.ensures ∙ c.if-number-ne0.false)) _ _ c.if-flat-room.false
    c.if-lengths-room.false c.args.use_normal _ _ _ _ _ c.number-number.ensures c.if-number-ne0.false c.components_of-counts.ensures
