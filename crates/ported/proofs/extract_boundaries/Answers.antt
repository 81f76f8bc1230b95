-- Each way out answers the row of the table that it stands for; the last has the wires of `ported_of`. Assumes nothing.
use Rattle.std.proofs.Common.{sym, ◌∙◌, arith}
use Rattle.mesh.specs.Mesh.{mesh_of, faces}
use Rattle.edges.proofs.Answering.{edged}
use Rattle.tracing.proofs.Answering.{refusal, result}
use Rattle.ported.proofs.Answering.{ported_mesh, ported_flat_short, ported_lengths_short, ported_done}
use Rattle.ported.proofs.extract_boundaries.Goals as goal
use Rattle.ported.proofs.extract_boundaries.Goals.{then-flat-room-via-then-flat-room, then-flat-room-via-else-flat-room+then-lengths-room}

pub returns-then-number-ne0 : goal.returns-then-number-ne0
returns-then-number-ne0 c =
    refusal _ _ (ported_mesh _ _ _ (λ z. c.if-number-ne0.true (c.number-number.ensures ∙ z)) ∙ sym c.number-number.ensures) c.if-number-ne0.true c.refused.ensures

pub returns-then-flat-room : goal.returns-then-flat-room
returns-then-flat-room c =
    let zero = sym c.number-number.ensures ∙ c.if-number-ne0.false in
    refusal _ _
    (elim c.then-flat-room.branch [
      | then-flat-room-via-then-flat-room w ↦ ported_flat_short _ _ _ zero w.if-flat-room.true
      | then-flat-room-via-else-flat-room+then-lengths-room w ↦ ported_lengths_short _ _ _ zero w.if-flat-room.false w.if-lengths-room.true
    ])
    (λ z. omega arith) c.refused-then-flat-room.ensures

pub ported_of-done-requires : goal.ported_of-done-requires
ported_of-done-requires c =
    let m = mesh_of c.args.positions.now c.args.textures.now c.args.normals.now c.args.corners.now c.args.sizes.now in
    record { edged = edged m (sym c.number-number.ensures ∙ c.if-number-ne0.false); numbers = c.if-flat-room.false; wires = c.if-lengths-room.false }

pub returns : goal.returns
unfolding faces
returns c =
    result (ported_done _ _ _ (sym c.number-number.ensures ∙ c.if-number-ne0.false) c.if-flat-room.false c.if-lengths-room.false) c.ported_of-done.ensures
