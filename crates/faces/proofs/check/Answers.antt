-- There are no more sizes than the limit where row 1 does not hold. Assumes nothing.
use Rattle.std.proofs.Common.{sym, ◌∙◌}
use Rattle.mesh.proofs.Accepted.{within}
use Rattle.faces.proofs.check.Goals as goal

pub uneven-requires : goal.uneven-requires
uneven-requires c = (within _ (sym c.over_limits.ensures ∙ c.if-over_limits.false)).sizes
