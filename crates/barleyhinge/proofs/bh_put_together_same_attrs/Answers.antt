-- `barleyhinge::bh_put_together_same_attrs` meets its contract: what the call promises of its answer, taken apart. Assumes nothing.
use Rattle.merging.specs.Merging.{PutTogether}
use Rattle.barleyhinge.proofs.Taken.{taken}
use Rattle.barleyhinge.proofs.bh_put_together_same_attrs.Goals as goal

pub returns : goal.returns
returns c = taken (PutTogether _ _ _ _) _ _ c.merged.ensures c.put_together_same_attrs-merged.ensures
