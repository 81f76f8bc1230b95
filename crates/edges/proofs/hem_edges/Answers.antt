-- The mesh's own number, 9 where a list is too short, or what `hems_of` writes. Assumes nothing.
use Rattle.std.proofs.Common.{sym, ◌∙◌, arith}
use Rattle.mesh.specs.Mesh.{mesh_of}
use Rattle.edges.proofs.Answering.{edged, hem_refused, hem_mesh, hem_starts_short, hem_ends_short, hem_done}
use Rattle.edges.proofs.hem_edges.Goals as goal
use Rattle.edges.proofs.hem_edges.Goals.{then-starts-room-via-then-starts-room, then-starts-room-via-else-starts-room+then-ends-room}

pub returns-then-number-ne0 : goal.returns-then-number-ne0
returns-then-number-ne0 c =
    let m = mesh_of c.args.positions.now c.args.textures.now c.args.normals.now c.args.corners.now c.args.sizes.now in
    hem_refused m c.args.starts.now c.args.ends.now _
    (hem_mesh m c.args.starts.now c.args.ends.now _ c.number-number.ensures c.if-number-ne0.true) c.if-number-ne0.true

pub returns-then-starts-room : goal.returns-then-starts-room
returns-then-starts-room c =
    let m = mesh_of c.args.positions.now c.args.textures.now c.args.normals.now c.args.corners.now c.args.sizes.now in
    hem_refused m c.args.starts.now c.args.ends.now _
    (elim c.then-starts-room.branch [
      | then-starts-room-via-then-starts-room w ↦
          hem_starts_short m c.args.starts.now c.args.ends.now _ c.number-number.ensures c.if-number-ne0.false w.if-starts-room.true
      | then-starts-room-via-else-starts-room+then-ends-room w ↦
          hem_ends_short m c.args.starts.now c.args.ends.now _ c.number-number.ensures c.if-number-ne0.false w.if-starts-room.false w.if-ends-room.true
    ])
    (λ z. omega arith)

pub hems_of-hems-requires : goal.hems_of-hems-requires
hems_of-hems-requires c =
    let m = mesh_of c.args.positions.now c.args.textures.now c.args.normals.now c.args.corners.now c.args.sizes.now in
    (edged m (sym c.number-number.ensures ∙ c.if-number-ne0.false), c.if-starts-room.false, c.if-ends-room.false)

pub returns : goal.returns
returns c =
    hem_done (mesh_of c.args.positions.now c.args.textures.now c.args.normals.now c.args.corners.now c.args.sizes.now) c.args.starts.now
    c.args.ends.now _ c.number-number.ensures c.if-number-ne0.false c.if-starts-room.false c.if-ends-room.false _ _ _ c.hems_of-hems.ensures
