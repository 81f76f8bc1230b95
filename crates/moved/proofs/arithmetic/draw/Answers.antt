-- `moved::arithmetic::draw` meets its contract, by the laws of `Formulas`. Assumes nothing.
use Rattle.moved.proofs.Formulas.{drawn_is}
use Rattle.moved.proofs.arithmetic.draw.Goals as goal

pub returns : goal.returns
returns c = drawn_is _ _ _ _ _ c.times.ensures c.plus.ensures
