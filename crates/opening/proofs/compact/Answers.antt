-- `opening::compact` meets its contract: compaction in place goes on the front of each list, and what it leaves stands at the front of the
-- lists (`Compacting`). Assumes nothing.
use Rattle.opening.proofs.Compacting.{given_roomy, smaller_kept}
use Rattle.opening.proofs.compact.Goals as goal

pub compact-kept-requires : goal.compact-kept-requires
compact-kept-requires c =
    given_roomy c.requires

pub returns : goal.returns
returns c =
    smaller_kept c.requires c.compact-kept.ensures
