-- The joins of the mesh are few and of its faces, and their panels are its panels.
-- Assumes nothing.
use Rattle.panels.proofs.Whole.{joins_room, row_inside, row_counts, row_divides, row_parted, whole_row}
use Rattle.panels.proofs.components_of.Goals as goal

pub find_joins-n-requires : goal.find_joins-n-requires
find_joins-n-requires c =
    joins_room c.args.use_normal _ _ _ _ c.requires _ whole_row

pub slice_bounds-row-end : goal.slice_bounds-row-end
slice_bounds-row-end c =
    row_inside c.args.use_normal _ _ _ _ c.requires _ _ _ c.find_joins-n.ensures whole_row c.find_joins-n.auto.out

pub slice_bounds-part-end : goal.slice_bounds-part-end
slice_bounds-part-end c =
    row_counts c.args.use_normal _ _ _ _ c.requires _ _ _ c.find_joins-n.ensures whole_row c.find_joins-n.auto.out

pub part-requires : goal.part-requires
part-requires c =
    row_divides c.args.use_normal _ _ _ _ c.requires _ _ _ c.find_joins-n.ensures whole_row

pub returns : goal.returns
returns c =
    row_parted c.args.use_normal _ _ _ _ c.requires _ _ _ c.find_joins-n.ensures whole_row _ _ _ _ c.part.ensures
