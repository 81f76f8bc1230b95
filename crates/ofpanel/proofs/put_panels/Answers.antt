-- `ofpanel::put_panels` meets its contract: it is `put_panels_in` with the fronts of rows of fixed length. Assumes nothing.
use mathlib.Core.Path.{sym}
use Rattle.ofpanel.proofs.Whole.{entry_within, corner_within, entry_row, corner_row, face_row, rows_are}
use native.Mathlib.Omega.{arith}
use Rattle.ofpanel.proofs.put_panels.Goals as goal

pub overflow_add-firsts : goal.overflow_add-firsts
overflow_add-firsts c =
    omega (arith, entry_within _ _ _ _ _ _ c.requires)

pub slice_bounds-firsts-end : goal.slice_bounds-firsts-end
slice_bounds-firsts-end c =
    entry_within _ _ _ _ _ _ c.requires

pub slice_bounds-put_panels_in-end : goal.slice_bounds-put_panels_in-end
slice_bounds-put_panels_in-end c =
    sym (entry_row _ _ _ _ _ _ c.requires)

pub slice_bounds-faces-end : goal.slice_bounds-faces-end
slice_bounds-faces-end c =
    corner_within _ _ _ _ _ _ c.requires

pub slice_bounds-put_panels_in-end-2 : goal.slice_bounds-put_panels_in-end-2
slice_bounds-put_panels_in-end-2 c =
    sym (corner_row _ _ _ _ _ _ c.requires)

pub slice_bounds-labels-end : goal.slice_bounds-labels-end
slice_bounds-labels-end c =
    c.requires.keyable.sound.few

pub slice_bounds-put_panels_in-end-3 : goal.slice_bounds-put_panels_in-end-3
slice_bounds-put_panels_in-end-3 c =
    sym (face_row _ _ _ _ _ _ c.requires)

pub put_panels_in-requires : goal.put_panels_in-requires
put_panels_in-requires c =
    rows_are _ _ _ _ _ _ c.requires

pub returns : goal.returns
returns c =
    c.put_panels_in.ensures
