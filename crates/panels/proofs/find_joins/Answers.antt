-- It is `record_joins` with the fronts of rows of fixed length. Assumes nothing.
use Rattle.std.proofs.Common.{sym}
use Rattle.keys.proofs.Rows.{corner_row}
use Rattle.panels.proofs.find_joins.Goals as goal

pub slice_bounds-record_joins-end : goal.slice_bounds-record_joins-end
slice_bounds-record_joins-end c = sym (corner_row _ _ c.requires.keyable)

pub slice_bounds-record_joins-end-2 : goal.slice_bounds-record_joins-end-2
slice_bounds-record_joins-end-2 c = sym (corner_row _ _ c.requires.keyable)

pub record_joins-requires : goal.record_joins-requires
record_joins-requires c =
    let row = corner_row _ _ c.requires.keyable in
    record { keyable = c.requires.keyable; firsts_long = row; faces_long = row; room = c.requires.room }

pub returns : goal.returns
returns c = c.record_joins.ensures
