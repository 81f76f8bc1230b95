-- `moved::arithmetic::midpoint` meets its contract, by the laws of `Formulas`. Assumes nothing.
use Rattle.moved.proofs.Formulas.{halfway_is}
use Rattle.moved.proofs.arithmetic.midpoint.Goals as goal

pub returns : goal.returns
returns c = halfway_is _ _ _ _ _ c.minus.ensures c.over.ensures c.plus.ensures
