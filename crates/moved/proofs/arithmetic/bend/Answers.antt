-- `moved::arithmetic::bend` meets its contract, by the laws of `Formulas`. Assumes nothing.
use Rattle.moved.proofs.Formulas.{bent_is}
use Rattle.moved.proofs.arithmetic.bend.Goals as goal

pub returns : goal.returns
returns c = bent_is _ _ _ _ _ _ _ _ c.minus.ensures c.minus-2.ensures
    c.plus-both.ensures c.over.ensures c.plus.ensures
