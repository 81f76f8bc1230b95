-- `labelled::label_panels` meets its contract: the faces of the first j panels are labelled, and panel j starts at `from`. Assumes nothing.
use Rattle.labelled.proofs.Labels.{label_within, label_room, label_turns, label_ends}
use native.Mathlib.Omega.{arith}
use Rattle.labelled.proofs.label_panels.Goals as goal

pub overflow_add-end : goal.overflow_add-end
overflow_add-end c =
    let within = label_within _ _ _ c.requires _ _ _ (omega arith) c.loop-j.invariant in
    omega (arith, within, c.well_formed.0)

pub offset_bounds-flat-from : goal.offset_bounds-flat-from
offset_bounds-flat-from c =
    let within = label_within _ _ _ c.requires _ _ _ (omega arith) c.loop-j.invariant in
    omega (arith, within, c.well_formed.0)

pub slice_bounds-label_panel-end : goal.slice_bounds-label_panel-end
slice_bounds-label_panel-end c =
    let within = label_within _ _ _ c.requires _ _ _ (omega arith) c.loop-j.invariant in
    omega (arith, within)

pub label_panel-requires : goal.label_panel-requires
label_panel-requires c =
    label_room _ _ _ c.requires _ _ _ (omega arith) c.loop-j.invariant

pub loop-j-preserved : goal.loop-j-preserved
loop-j-preserved c =
    label_turns _ _ _ c.requires _ _ _ (omega arith) c.loop-j.invariant _ _ (omega arith) (c.label_panel.ensures)

pub returns : goal.returns
returns c =
    label_ends _ _ _ _ _ _ (omega arith) c.loop-j.invariant
