-- The part of the room that is lent is the cells of the list. Assumes nothing.
use Rattle.std.proofs.Common.{ℕ, replicate}
use lib.ListN.{length-replicate}
use Rattle.mesh.specs.Limits.{point_numbers}
use Rattle.together.proofs.OneList.{cells_are, listed, pairs_are, settled_are}
use Rattle.merging.proofs.merge_list.Goals as goal

pub merge_groups-requires : goal.merge_groups-requires
merge_groups-requires g c =
    (listed c.requires _ (cells_are c.requires (replicate point_numbers 0) _ (length-replicate {A = ℕ} point_numbers 0) c.fill_cells.ensures), c.requires.room)

pub returns : goal.returns
returns g c =
    let cells = cells_are c.requires (replicate point_numbers 0) c.fill_cells.new.cells (length-replicate {A = ℕ} point_numbers 0) c.fill_cells.ensures in
    (pairs_are c.requires _ cells _ c.merge_groups.ensures.0, settled_are c.requires _ cells _ c.merge_groups.ensures.1)
