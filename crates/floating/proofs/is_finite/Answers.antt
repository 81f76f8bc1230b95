-- What is finite by the library is so by the rule. Assumes nothing.
use Rattle.std.proofs.Common.{◌∙◌}
use Rattle.floating.proofs.Finite.{finite_is}
use Rattle.floating.proofs.is_finite.Goals as goal

pub returns : goal.returns
returns c = c.is_finite.ensures.value ∙ finite_is c.args.x
