-- `moved::arithmetic::spread_of` meets its contract, by the laws of `Literals`. Assumes nothing.
use Rattle.moved.proofs.Literals.{three_eighths_is, four_is}
use Rattle.moved.proofs.arithmetic.spread_of.Goals as goal

pub returns : goal.returns
returns c = cc (three_eighths_is, four_is)
