-- `ofpanel::put_entries` meets its contract: the column of the uses, and that of the hems behind it. Assumes nothing.
use mathlib.Core.Path.{sym}
use Rattle.ofpanel.proofs.Entries.{prefix_within, prefix_long, column_room, hem_room, entries_done}
use Rattle.ofpanel.proofs.put_entries.Goals as goal

pub slice_bounds-put_column-end : goal.slice_bounds-put_column-end
slice_bounds-put_column-end c =
    prefix_within 0 _ _ _ _ _ c.requires

pub slice_bounds-put_column-end-2 : goal.slice_bounds-put_column-end-2
slice_bounds-put_column-end-2 c =
    sym (prefix_long 0 _ _ _ _ _ c.requires)

pub put_column-requires : goal.put_column-requires
put_column-requires c =
    column_room 0 _ _ _ _ _ c.requires

pub put_hem_ends-requires : goal.put_hem_ends-requires
put_hem_ends-requires c =
    hem_room _ _ _ _ _ _ c.requires _ c.put_column.ensures

pub returns : goal.returns
returns c =
    entries_done _ _ _ _ _ _ c.requires _ c.put_column.ensures _ c.put_hem_ends.ensures
