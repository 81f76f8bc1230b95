-- `moved::arithmetic::weight_of` meets its contract, by the law of `Formulas`. Assumes nothing.
use Rattle.moved.proofs.Formulas.{weight_is}
use Rattle.moved.proofs.arithmetic.weight_of.Goals as goal

pub returns : goal.returns
returns c = weight_is _ _ _ _ _ c.cosine_of.ensures c.spread_of-a.ensures c.from.ensures
