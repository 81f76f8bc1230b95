-- `mesh::misfit` meets its contract. Assumes nothing.
use Rattle.std.proofs.Common.{arith}
use Rattle.lists.proofs.Parts.{gather_begins, gather_turns, gather_ends}
use Rattle.mesh.specs.Table.{outside}
use Rattle.mesh.proofs.misfit.Goals as goal

pub loop-n-init : goal.loop-n-init
loop-n-init c = gather_begins outside 0 _

pub loop-n-preserved : goal.loop-n-preserved
loop-n-preserved c = rw c.is_outside-found.ensures (gather_turns outside 0 _ _ _ (omega arith) c.loop-n.invariant)

pub returns : goal.returns
returns c = gather_ends outside 0 _ _ _ (omega arith) c.loop-n.invariant
