-- Each of the three lists is merged, then the corners are sent. Assumes nothing.
use Rattle.std.proofs.Common.{ℕ, arith, ◌∙◌}
use lib.ListN.{length-replicate}
use Rattle.mesh.specs.Limits.{entry_limit}
use Rattle.mesh.specs.Mesh.{mesh_of}
use Rattle.together.proofs.Ready.{positions_ready, positions_few, textures_ready, normals_ready, corners_ready}
use Rattle.together.proofs.Whole.{accepted_call}
use Rattle.merging.proofs.merge.Goals as goal

pub merge_positions-p-requires : goal.merge_positions-p-requires
merge_positions-p-requires g c =
    let m = mesh_of c.args.positions.now c.args.textures.now c.args.normals.now c.args.corners.now c.args.sizes.now in
    (positions_ready m c.args.t c.args.out.now c.requires, omega (arith, positions_few m c.args.t c.args.out.now c.requires, length-replicate {A = ℕ} entry_limit 0))

pub merge_list-u-requires : goal.merge_list-u-requires
merge_list-u-requires g c =
    let m = mesh_of c.args.positions.now c.args.textures.now c.args.normals.now c.args.corners.now c.args.sizes.now in
    textures_ready m c.args.t c.args.out.now c.requires _ (length-replicate {A = ℕ} entry_limit 0)

pub merge_list-n-requires : goal.merge_list-n-requires
merge_list-n-requires g c =
    let m = mesh_of c.args.positions.now c.args.textures.now c.args.normals.now c.args.corners.now c.args.sizes.now in
    normals_ready m c.args.t c.args.out.now c.requires _ (length-replicate {A = ℕ} entry_limit 0)

pub send_corners-requires : goal.send_corners-requires
send_corners-requires g c =
    let m = mesh_of c.args.positions.now c.args.textures.now c.args.normals.now c.args.corners.now c.args.sizes.now in
    corners_ready m c.args.t c.args.out.now c.requires _ _ _
    (c.merge_positions-p.auto.map ∙ length-replicate {A = ℕ} entry_limit 0)
    (c.merge_list-u.auto.map ∙ length-replicate {A = ℕ} entry_limit 0)
    (c.merge_list-n.auto.map ∙ length-replicate {A = ℕ} entry_limit 0)

pub returns : goal.returns
returns g c =
    let m = mesh_of c.args.positions.now c.args.textures.now c.args.normals.now c.args.corners.now c.args.sizes.now in
    accepted_call m c.args.t c.args.out.now c.requires _ _ _ _ _ _
    c.merge_positions-p.ensures.1 c.merge_list-u.ensures.1 c.merge_list-n.ensures.1 _ _ _ _
    c.merge_positions-p.ensures.0 c.merge_list-u.ensures.0 c.merge_list-n.ensures.0 c.send_corners.ensures
