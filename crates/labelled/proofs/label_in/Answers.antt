-- `labelled::label_in` meets its contract: the panels are listed, then their faces are labelled. Assumes nothing.
use Rattle.labelled.proofs.Labels.{count_within, count_taken, panels_room, labels_done}
use Rattle.labelled.proofs.label_in.Goals as goal

pub slice_bounds-label_panels-end : goal.slice_bounds-label_panels-end
slice_bounds-label_panels-end c =
    let pre = c.requires in
    let components-of = c.components_of-counts in
    count_within _ _ _ _ _ _ _ _ _ pre components-of.ensures

pub slice_bounds-label_panels-end-2 : goal.slice_bounds-label_panels-end-2
slice_bounds-label_panels-end-2 c =
    let pre = c.requires in
    let components-of = c.components_of-counts in
    count_taken _ _ _ _ _ _ _ _ _ pre components-of.ensures

pub label_panels-requires : goal.label_panels-requires
label_panels-requires c =
    let pre = c.requires in
    let components-of = c.components_of-counts in
    panels_room _ _ _ _ _ _ _ _ _ pre components-of.ensures

pub returns : goal.returns
returns c =
    let earlier = c in
    let pre = earlier.requires in
    let components-of = earlier.components_of-counts in
    let label-panels = c.label_panels in
    labels_done _ _ _ _ _ _ _ _ _ pre components-of.ensures _ label-panels.ensures
