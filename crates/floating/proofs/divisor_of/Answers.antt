-- The rule of one axis at each of the three. Assumes nothing.
use Rattle.std.proofs.Common.{rules}
use Rattle.floating.specs.Scaling.{divisor_of}
use Rattle.floating.proofs.Literals.{one_is}
use Rattle.floating.proofs.divisor_of.Goals as goal

pub returns : goal.returns
unfolding divisor_of
returns c = c.on_axes.ensures divisor_of (λ l g r h. search (rules, one_is))
