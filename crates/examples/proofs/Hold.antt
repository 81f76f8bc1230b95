-- The twelve examples hold of the definitions: one statement over the list of them, by computation. Assumes nothing.
use lib.Dec.{T}
use lib.Count.{count_trailing_zeros}
use lib.Ieee as ieee
use Rattle.lists.specs.Numbers.{count_below, seek}
use Rattle.lists.specs.FirstUses.{first_uses, place}
use Rattle.mesh.specs.Table.{mesh_number, shape_number, over_limits, uneven, misfit, ungrouped, astray, short}
use Rattle.grouping.specs.Push.{pushed}
use Rattle.splitting.specs.Splitting.{mate_of, first_mated, folded_by, split_by_in, split_by, pieces_by}
use Rattle.folding.specs.Folding.{triangle_pieces, fold_of, quadrangle_pieces, pieces}
use Rattle.removal.specs.Folded.{removed}
use Rattle.removal.specs.Examples.{leaves}
use Rattle.unused.specs.Compaction.{renumber, entries, used_positions, used_textures, used_normals, renumbered, compacted}
use Rattle.floating.specs.Limits.{unfit, boundless, far}
use Rattle.floating.specs.Points.{row}
use Rattle.floating.specs.Scaling as scaling
use Rattle.floating.specs.Cells.{cut, compared}
use Rattle.floating.specs.Near as near
use Rattle.nearby.specs.Pairs.{pairs, compared_pairs}
use Rattle.nearby.specs.Walk as groups
use Rattle.merging.specs.Centre as centre
use Rattle.merging.specs.Merging as merging
use Rattle.edges.specs.Edges.{key, verdict, hems}
use Rattle.turning.specs.Turning.{turn_from, onward_in, onward, trail, trails_in, house_wires}
use Rattle.tracing.specs.Following.{follow, traces_in}
use Rattle.ported.specs.Ported.{ported_wires}
use Rattle.keys.specs.Keys.{key_of}
use Rattle.searching.specs.Search.{search_from, panels_from}
use Rattle.panels.specs.Panels.{panels}
use Rattle.examples.specs.Twelve.{has_verdict, has_hem, has_ported, has_house, has_panels, compacts, six_positions, merges, three_textures, all_hold}

pub they_hold : T all_hold
unfolding all_hold has_verdict has_hem has_ported has_house has_panels key verdict hems follow traces_in ported_wires key_of search_from panels_from panels
    house_wires trails_in trail onward onward_in turn_from
    leaves removed pushed pieces pieces_by split_by split_by_in folded_by first_mated mate_of quadrangle_pieces fold_of triangle_pieces seek
    compacts six_positions compacted renumbered used_positions used_textures used_normals entries renumber place first_uses
    mesh_number shape_number over_limits uneven misfit ungrouped astray short
    merges three_textures merging.merge_number merging.any_boundless merging.any_distant merging.texture_pairs merging.merged_to merging.merged_corner merging.merged_corners
    centre.added centre.sum_from centre.centre_of centre.closest centre.representative centre.sent_to
    groups.descending groups.popped groups.walk groups.group_from groups.groups_below groups.groups pairs compared_pairs count_below
    near.sum_from near.squared near.near compared cut
    scaling.lesser scaling.greater scaling.centre_of scaling.divisor_of scaling.scaled_of scaling.box_of scaling.scaled_list
    row unfit boundless far
    ieee.add ieee.sub ieee.mul ieee.div ieee.neg ieee.sum ieee.lt ieee.le ieee.eq
    ieee.of_int ieee.of_bits ieee.to_bits ieee.of_fields ieee.round ieee.units ieee.odd ieee.size ieee.span ieee.climb count_trailing_zeros
they_hold = tt
