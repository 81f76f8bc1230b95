-- `widening::widened` meets its contract: an f64 has each number of an f32. Assumes nothing.
use mathlib.Core.Path.{sym, ◌∙◌}
use Rattle.floating.proofs.Nans.{nan_made}
use Rattle.widening.proofs.Nans.{special, made}
use Rattle.widening.proofs.widened.Goals as goal

pub returns-then-n-gt-INFINITY : goal.returns-then-n-gt-INFINITY
returns-then-n-gt-INFINITY c = nan_made ∙ sym (special _ c.if-n-gt-INFINITY.true)

pub float_from_bits-result : goal.float_from_bits-result
float_from_bits-result c = made _ c.if-n-gt-INFINITY.false
