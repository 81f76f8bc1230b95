-- The rule of one axis at each of the three. Assumes nothing.
use Rattle.floating.specs.Scaling.{scaled_of}
use Rattle.floating.proofs.Literals.{two_is}
use Rattle.floating.proofs.scaled_by.Goals as goal

pub returns : goal.returns
unfolding scaled_of
returns c = cc two_is
