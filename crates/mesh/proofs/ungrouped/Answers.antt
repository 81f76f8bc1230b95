-- `mesh::ungrouped` meets its contract: `last` is the kind of the last size. Assumes nothing.
use Rattle.std.proofs.Common.{◌∙◌, arith}
use Rattle.mesh.proofs.Rows.{grouping_begins, grouping_turns, grouping_ends}
use Rattle.mesh.proofs.KindOrder.{kind_before}
use Rattle.mesh.proofs.ungrouped.Goals as goal

pub loop-n-init : goal.loop-n-init
loop-n-init c = grouping_begins _

pub loop-n-preserved : goal.loop-n-preserved
loop-n-preserved c =
    rw (c.lt-fallen.ensures ∙ kind_before c.of-kind.result c.loop-n.last, c.of-kind.ensures) (grouping_turns _ _ _ _ (omega arith) c.loop-n.invariant)

pub returns : goal.returns
returns c = grouping_ends _ _ _ _ (omega arith) c.loop-n.invariant
