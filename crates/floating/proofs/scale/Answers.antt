-- One point more is scaled, and in the end all are. Assumes nothing.
use Rattle.std.proofs.Common.{ap, ◌∙◌}
use Rattle.floating.specs.Scaling.{centre, divisor}
use Rattle.floating.proofs.Boxes.{point_in, scaled_is, scaling_turns, scaling_ends}
use Rattle.floating.proofs.Rows.{attr_point}
use Rattle.floating.proofs.scale.Goals as goal

pub loop-i-preserved : goal.loop-i-preserved
loop-i-preserved c =
    rw c.put_point.ensures
    (scaling_turns _ _ _ c.loop-i.i c.scaled_by.result c.loop-i-test.true
    (scaled_is c.args.positions.now _ c.loop-i.i _ _ _ _ c.scaled_by.ensures (attr_point c.args.positions.now c.loop-i.i _ (point_in c.args.positions.now _ c.loop-i-test.true) c.attr_at.ensures)
    (c.centre_of-c.ensures ∙ ap centre c.box_of-b.ensures)
    (c.divisor_of-d.ensures ∙ ap divisor c.box_of-b.ensures))
    c.loop-i.invariant)

pub returns : goal.returns
returns c = scaling_ends _ _ _ c.loop-i.i c.loop-i-test.false c.loop-i.invariant
