-- `moved::arithmetic::between` meets its contract, by the laws of `Formulas`. Assumes nothing.
use Rattle.moved.proofs.Formulas.{winged_is}
use Rattle.moved.proofs.arithmetic.between.Goals as goal

pub returns : goal.returns
returns c =
    winged_is _ _ _ _ _ _ _ _ _ _ _ _ _ _
    c.minus.ensures c.times.ensures c.plus-on.ensures
    c.minus-2.ensures c.over.ensures c.plus-first.ensures
    c.minus-3.ensures c.over-2.ensures c.plus.ensures
