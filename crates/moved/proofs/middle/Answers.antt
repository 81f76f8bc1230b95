-- `moved::middle` meets its contract, by the laws of `Taking` and `Edgewise`. Assumes nothing.
use Rattle.moved.proofs.Taking.{read, point_in}
use Rattle.moved.proofs.Edgewise.{middle_single, middle_winged}
use Rattle.moved.proofs.middle.Goals as goal

pub returns-then-wings-e-eq-SINGLE : goal.returns-then-wings-e-eq-SINGLE
returns-then-wings-e-eq-SINGLE c =
    let p = read _ _ _ (point_in _ _ _ c.requires.0.points (c.requires.0.lower.below _ c.requires.1)) c.attr_at-p.ensures in
    let q = read _ _ _ (point_in _ _ _ c.requires.0.points (c.requires.0.higher.below _ c.requires.1)) c.attr_at-q.ensures in
    middle_single _ _ _ c.args.firsts.now c.args.seconds.now _ c.args.degrees.now c.args.second.now c.args.ones.now _ _ _ _
    c.if-wings-e-eq-SINGLE.true p q c.midpoint.ensures

pub returns : goal.returns
returns c =
    let p = read _ _ _ (point_in _ _ _ c.requires.0.points (c.requires.0.lower.below _ c.requires.1)) c.attr_at-p.ensures in
    let q = read _ _ _ (point_in _ _ _ c.requires.0.points (c.requires.0.higher.below _ c.requires.1)) c.attr_at-q.ensures in
    let f = read _ _ _ (point_in _ _ _ c.requires.0.points (c.requires.0.first_wing_is.below _ c.requires.1)) c.attr_at-f.ensures in
    let s = read _ _ _ (point_in _ _ _ c.requires.0.points (c.requires.0.second_wing_is.below _ c.requires.1)) c.attr_at-s.ensures in
    middle_winged _ _ _ _ _ _ _ _ _ _ _ _ _ _ _ _ c.if-wings-e-eq-SINGLE.false p q f s c.share.ensures c.between.ensures
