-- `barleyhinge::bh_compact_in_place` meets its contract: what the call promises of its answer, taken apart. Assumes nothing.
use Rattle.inplace.specs.InPlace.{InPlace}
use Rattle.barleyhinge.proofs.Taken.{taken}
use Rattle.barleyhinge.proofs.bh_compact_in_place.Goals as goal

pub returns : goal.returns
returns c =
    taken (InPlace _ _ _ _) _ _ c.compacted.ensures
    c.compact_in_place-made.ensures
