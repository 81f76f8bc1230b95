-- `ofpanel::find_uses` meets its contract: it is `find_uses_in` with the fronts of rows of fixed length. Assumes nothing.
use mathlib.Core.Path.{sym}
use Rattle.ofpanel.proofs.Entries.{short, front_long, front_rows}
use Rattle.ofpanel.proofs.find_uses.Goals as goal

pub slice_bounds-lower-end : goal.slice_bounds-lower-end
slice_bounds-lower-end c =
    short _ _ _ _ _ c.requires

pub slice_bounds-find_uses_in-end : goal.slice_bounds-find_uses_in-end
slice_bounds-find_uses_in-end c =
    sym (front_long _ _ _ _ _ c.requires 0)

pub slice_bounds-higher-end : goal.slice_bounds-higher-end
slice_bounds-higher-end c =
    short _ _ _ _ _ c.requires

pub slice_bounds-find_uses_in-end-2 : goal.slice_bounds-find_uses_in-end-2
slice_bounds-find_uses_in-end-2 c =
    sym (front_long _ _ _ _ _ c.requires 0)

pub slice_bounds-alike-end : goal.slice_bounds-alike-end
slice_bounds-alike-end c =
    short _ _ _ _ _ c.requires

pub slice_bounds-find_uses_in-end-3 : goal.slice_bounds-find_uses_in-end-3
slice_bounds-find_uses_in-end-3 c =
    sym (front_long _ _ _ _ _ c.requires 1)

pub slice_bounds-order-end : goal.slice_bounds-order-end
slice_bounds-order-end c =
    short _ _ _ _ _ c.requires

pub slice_bounds-find_uses_in-end-4 : goal.slice_bounds-find_uses_in-end-4
slice_bounds-find_uses_in-end-4 c =
    sym (front_long _ _ _ _ _ c.requires 0)

pub find_uses_in-requires : goal.find_uses_in-requires
find_uses_in-requires c =
    front_rows _ _ _ _ _ c.requires

pub returns : goal.returns
returns c =
    c.find_uses_in.ensures
