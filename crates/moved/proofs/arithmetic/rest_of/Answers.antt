-- `moved::arithmetic::rest_of` meets its contract, by the laws of `Literals`. Assumes nothing.
use Rattle.moved.proofs.Literals.{five_eighths_is, four_is}
use Rattle.moved.proofs.arithmetic.rest_of.Goals as goal

pub returns : goal.returns
returns c = cc (five_eighths_is, four_is)
