-- Each answer of the decision says what is left. Assumes nothing.
use Rattle.std.proofs.Common.{sym, ap, ◌∙◌, [], ◌∷◌}
use Rattle.mesh.specs.Mesh.{Ring}
use Rattle.grouping.proofs.Placing.{placed_none, placed_as}
use Rattle.folding.specs.Folding.{without_q1, without_q3}
use Rattle.oneface.proofs.OneFace.{quad_left}
use Rattle.oneface.proofs.quadrangle_pieces.Goals as goal

pub returns-in-Goes : goal.returns-in-Goes
returns-in-Goes c =
    placed_as (quad_left c.args.face.now c.corners_of-quad.result _ _ c.corners_of-quad.ensures c.degenerate_quadrangle.ensures c.in-Goes.is) (placed_none _ _ _ _)

pub returns-in-WithoutQ1 : goal.returns-in-WithoutQ1
returns-in-WithoutQ1 c =
    let e = c.corners_of-quad.ensures in
    let left = quad_left c.args.face.now c.corners_of-quad.result _ _ e c.degenerate_quadrangle.ensures c.in-WithoutQ1.is in
    placed_as (left ∙ ap (λ (t : Ring). t ∷ []) (sym (c.without_q1.ensures ∙ ap without_q1 e))) c.put_triangle.ensures

pub returns-in-WithoutQ3 : goal.returns-in-WithoutQ3
returns-in-WithoutQ3 c =
    let e = c.corners_of-quad.ensures in
    let left = quad_left c.args.face.now c.corners_of-quad.result _ _ e c.degenerate_quadrangle.ensures c.in-WithoutQ3.is in
    placed_as (left ∙ ap (λ (t : Ring). t ∷ []) (sym (c.without_q3.ensures ∙ ap without_q3 e))) c.put_triangle-in-WithoutQ3.ensures

pub returns-in-Stays : goal.returns-in-Stays
returns-in-Stays c =
    placed_as (quad_left c.args.face.now c.corners_of-quad.result _ _ c.corners_of-quad.ensures c.degenerate_quadrangle.ensures c.in-Stays.is) c.put_face.ensures
