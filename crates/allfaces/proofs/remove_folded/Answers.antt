-- What the triangles leave stands in front of what the others leave. Assumes nothing.
use Rattle.std.proofs.Common.{◌*◌, sym, length-take-le, arith}
use borrow.Author.Rules.{part_to_end}
use Rattle.mesh.specs.Limits.{width}
use Rattle.removal.proofs.TwoParts.{within_corners}
use Rattle.allfaces.proofs.Behind.{ready_front, ready_behind, left_triangles, left_parts}
use Rattle.allfaces.proofs.remove_folded.Goals as goal

pub slice_bounds-all_pieces-end : goal.slice_bounds-all_pieces-end
slice_bounds-all_pieces-end c = sym (length-take-le _ _ (within_corners _ _ _ c.requires.fit c.triangles-k.ensures))

pub all_pieces-at-requires : goal.all_pieces-at-requires
all_pieces-at-requires c = ready_front _ _ _ _ _ _ c.requires c.triangles-k.ensures

pub returns-then-k-sizes : goal.returns-then-k-sizes
returns-then-k-sizes c = left_triangles _ _ _ _ _ _ _ _ _ _ _ c.requires.fit c.triangles-k.ensures c.if-k-sizes.true c.all_pieces-at.ensures.left

pub slice_bounds-remove_behind-count : goal.slice_bounds-remove_behind-count
slice_bounds-remove_behind-count c = omega (arith, within_corners _ _ _ c.requires.fit c.triangles-k.ensures)

pub slice_bounds-remove_behind-start : goal.slice_bounds-remove_behind-start
slice_bounds-remove_behind-start c = omega (arith, within_corners _ _ _ c.requires.fit c.triangles-k.ensures)

pub remove_behind-requires : goal.remove_behind-requires
remove_behind-requires c =
    let k = c.triangles-k.result in
    let first = c.all_pieces-at in
    rw (part_to_end c.args.corners.now (width * 3 * k), part_to_end c.args.sizes.now k)
    (ready_behind _ _ _ _ _ _ _ _ _ _ _ c.requires c.triangles-k.ensures first.ensures.left.placed first.auto.out first.auto.lens first.auto.tags)

pub returns : goal.returns
returns c =
    let k = c.triangles-k.result in
    left_parts _ _ _ _ _ _ _ _ _ _ _ _ _ _ _ _ c.requires.fit c.triangles-k.ensures c.all_pieces-at.ensures.left
    (rw (part_to_end c.args.corners.now (width * 3 * k), part_to_end c.args.sizes.now k) at c.remove_behind.ensures)
