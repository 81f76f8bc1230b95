-- The corners of a flattened triangle are its own. Assumes nothing.
use Rattle.std.proofs.Common.{arith}
use Rattle.std.proofs.lemmas.Grind.{common_steps}
use Rattle.oneface.proofs.put_triangle.Goals as goal

pub returns : goal.returns
returns c = grind (arith, common_steps)
