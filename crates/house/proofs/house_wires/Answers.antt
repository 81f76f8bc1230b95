-- Each way out answers the row of the table that it stands for; the last has the answer of `house_of`. Assumes nothing.
use Rattle.std.proofs.Common.{sym, ◌∙◌, arith}
use Rattle.mesh.specs.Mesh.{mesh_of, faces}
use Rattle.edges.proofs.Answering.{edged}
use Rattle.tracing.proofs.Answering.{refusal, renumbered}
use Rattle.house.proofs.Answering.{house_mesh, house_flat_short, house_lengths_short, house_verdict}
use Rattle.house.proofs.house_wires.Goals as goal
use Rattle.house.proofs.house_wires.Goals.{then-flat-room-via-then-flat-room, then-flat-room-via-else-flat-room+then-lengths-room}

pub returns-then-number-ne0 : goal.returns-then-number-ne0
returns-then-number-ne0 c =
    refusal _ _ (house_mesh _ _ _ (λ z. c.if-number-ne0.true (c.number-number.ensures ∙ z)) ∙ sym c.number-number.ensures) c.if-number-ne0.true c.refused.ensures

pub returns-then-flat-room : goal.returns-then-flat-room
returns-then-flat-room c =
    let zero = sym c.number-number.ensures ∙ c.if-number-ne0.false in
    refusal _ _
    (elim c.then-flat-room.branch [
      | then-flat-room-via-then-flat-room w ↦ house_flat_short _ _ _ zero w.if-flat-room.true
      | then-flat-room-via-else-flat-room+then-lengths-room w ↦ house_lengths_short _ _ _ zero w.if-flat-room.false w.if-lengths-room.true
    ])
    (λ z. omega arith) c.refused-then-flat-room.ensures

pub house_of-found-requires : goal.house_of-found-requires
house_of-found-requires c =
    let m = mesh_of c.args.positions.now c.args.textures.now c.args.normals.now c.args.corners.now c.args.sizes.now in
    record { edged = edged m (sym c.number-number.ensures ∙ c.if-number-ne0.false); numbers = c.if-flat-room.false; wires = c.if-lengths-room.false }

pub returns : goal.returns
unfolding faces
returns c =
    renumbered (house_verdict _ _ _ (sym c.number-number.ensures ∙ c.if-number-ne0.false) c.if-flat-room.false c.if-lengths-room.false) c.house_of-found.ensures.answered
