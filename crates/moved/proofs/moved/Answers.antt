-- `moved::moved` meets its contract, by the laws of `Taking`. Assumes nothing.
use Rattle.moved.proofs.Taking.{read, point_in, moved_inner, moved_corner, moved_boundary}
use Rattle.moved.proofs.moved.Goals as goal

pub returns-then-y : goal.returns-then-y
returns-then-y c =
    let p = read _ _ _ (point_in _ _ _ c.requires.0.points c.requires.1) c.attr_at-p.ensures in
    let q = read _ _ _ (point_in _ _ _ c.requires.0.sums c.requires.1) c.attr_at.ensures in
    moved_inner _ _ c.args.first.now _ _ _ _ _ _ _ _ c.if-y.true p q c.weight_of.ensures c.draw.ensures

pub returns-then-n-eq-CORNER : goal.returns-then-n-eq-CORNER
returns-then-n-eq-CORNER c =
    let p = read _ _ _ (point_in _ _ _ c.requires.0.points c.requires.1) c.attr_at-p.ensures in
    moved_corner _ _ c.args.first.now _ c.args.pulls.now c.args.twos.now _ _ c.if-y.false c.if-n-eq-CORNER.true p

pub returns : goal.returns
returns c =
    let p = read _ _ _ (point_in _ _ _ c.requires.0.points c.requires.1) c.attr_at-p.ensures in
    let x = read _ _ _ (point_in _ _ _ c.requires.0.points (c.requires.0.first_below _ c.requires.1 c.if-y.false)) c.attr_at-2.ensures in
    let y = read _ _ _ (point_in _ _ _ c.requires.0.points (c.requires.0.second_below _ c.requires.1 c.if-y.false)) c.attr_at-3.ensures in
    moved_boundary _ _ _ _ c.args.pulls.now c.args.twos.now _ _ _ _ _ c.if-y.false c.if-n-eq-CORNER.false p x y c.bend.ensures
