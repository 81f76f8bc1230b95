-- `drawing::read_records` meets its contract: what is left to be read gives what the whole file gives. Assumes nothing.
use mathlib.Core.Path.{◌∙◌}
use Rattle.drawing.proofs.Looping.{reading_begins, reading_turns, reading_ends, is_ended, is_refused}
use Rattle.drawing.proofs.read_records.Goals as goal

pub records-init : goal.records-init
records-init c = reading_begins _ _ c.requires

pub records-preserved : goal.records-preserved
records-preserved c =
    let kept = c.step-x.auto in
    let long = c.records.invariant.long in
    reading_turns _ _ _ _ _ c.records-test.true c.if-x-eq0.true c.records.invariant c.step-x.ensures
    (record {
      positions = kept.positions ∙ long.positions;
      textures = kept.textures ∙ long.textures;
      normals = kept.normals ∙ long.normals;
      corners = kept.corners ∙ long.corners;
      sizes = kept.sizes ∙ long.sizes;
    })

pub returns-else-x-eq0 : goal.returns-else-x-eq0
returns-else-x-eq0 c = reading_ends _ _ _ (is_refused c.records.x c.records-test.true c.if-x-eq0.false) c.records.invariant

pub returns-after-records : goal.returns-after-records
returns-after-records c = reading_ends _ _ _ (is_ended c.records.x c.records-test.false) c.records.invariant
