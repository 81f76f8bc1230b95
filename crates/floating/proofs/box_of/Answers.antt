-- One point more is in the box, and in the end all are. Assumes nothing.
use Rattle.std.proofs.Common.{◌≡◌, ap, ◌∙◌}
use Rattle.floating.specs.Points.{point_at}
use Rattle.floating.specs.Scaling.{box_with}
use Rattle.floating.proofs.Boxes.{point_in, box_begins, box_turns, box_ends}
use Rattle.floating.proofs.Rows.{attr_point}
use Rattle.floating.proofs.box_of.Goals as goal

pub loop-i-init : goal.loop-i-init
loop-i-init c =
    rw (attr_point c.args.positions.now 0 c.attr_at-first.result c.requires.some c.attr_at-first.ensures) (box_begins _ c.requires)

pub loop-i-preserved : goal.loop-i-preserved
loop-i-preserved c =
    let s = c.args.positions.now in
    let p : c.attr_at.result ≡ point_at s c.loop-i.i = attr_point s _ _ (point_in s _ c.loop-i-test.true) c.attr_at.ensures in
    rw (c.with_point-b.ensures ∙ ap (box_with c.loop-i.b) p) (box_turns _ _ c.loop-i.i c.loop-i-test.true c.loop-i.invariant)

pub returns : goal.returns
returns c = box_ends _ _ _ c.loop-i-test.false c.loop-i.invariant
