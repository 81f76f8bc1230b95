-- A folded triangle goes, any other stays. Assumes nothing.
use Rattle.oneface.proofs.OneFace.{triangle_none, triangle_kept}
use Rattle.oneface.proofs.triangle_pieces.Goals as goal

pub returns-then-degenerate_triangle : goal.returns-then-degenerate_triangle
returns-then-degenerate_triangle c =
    triangle_none c.args.face.now c.corners_of.result _ _ _ _ _ c.corners_of.ensures c.degenerate_triangle.ensures c.if-degenerate_triangle.true

pub returns : goal.returns
returns c =
    triangle_kept c.args.face.now c.corners_of.result _ c.corners_of.ensures c.degenerate_triangle.ensures c.if-degenerate_triangle.false c.put_face.ensures
