-- The rule of one axis at each of the three. Assumes nothing.
use Rattle.std.proofs.Common.{rules}
use Rattle.floating.specs.Scaling.{centre_of}
use Rattle.floating.proofs.Literals.{two_is}
use Rattle.floating.proofs.centre_of.Goals as goal

pub returns : goal.returns
unfolding centre_of
returns c = c.on_axes.ensures centre_of (λ l g r h. search (rules, two_is))
