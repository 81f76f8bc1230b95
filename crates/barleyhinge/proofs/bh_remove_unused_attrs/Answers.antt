-- `barleyhinge::bh_remove_unused_attrs` meets its contract: what the call promises of its answer, taken apart. Assumes nothing.
use Rattle.unused.specs.Compaction.{Compaction}
use Rattle.barleyhinge.proofs.Taken.{taken}
use Rattle.barleyhinge.proofs.bh_remove_unused_attrs.Goals as goal

pub returns : goal.returns
returns c = taken (Compaction _ _ _) _ _ c.compacted.ensures c.remove_unused_attrs-made.ensures
