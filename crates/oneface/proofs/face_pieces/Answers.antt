-- The size decides which rule the pieces follow. Assumes nothing.
use Rattle.std.proofs.Common.{arith}
use Rattle.grouping.proofs.Placing.{placed_as}
use Rattle.oneface.proofs.OneFace.{three_pieces, four_pieces, more_pieces}
use Rattle.oneface.proofs.face_pieces.Goals as goal

pub returns-in-3 : goal.returns-in-3
returns-in-3 c = placed_as (three_pieces c.args.face.now c.args.n _ _ _ _ c.requires c.in-3.is) c.triangle_pieces.ensures

pub returns-in-4 : goal.returns-in-4
returns-in-4 c = placed_as (four_pieces c.args.face.now c.args.n _ _ _ _ c.requires c.in-4.is) c.quadrangle_pieces.ensures

pub returns-in_default : goal.returns-in_default
returns-in_default c =
    placed_as (more_pieces c.args.face.now c.args.n _ _ _ _ c.requires (λ e. omega (arith, c.in_default)) (λ e. omega (arith, c.in_default))) c.ring_pieces.ensures
