-- `barleyhinge::bh_loop_subdivision` meets its contract: what the call promises of its answer, taken apart. Assumes nothing.
use Rattle.smoothing.specs.Smoothing.{Smoothing}
use Rattle.barleyhinge.proofs.Taken.{taken}
use Rattle.barleyhinge.proofs.bh_loop_subdivision.Goals as goal

pub returns : goal.returns
returns c = taken (Smoothing _ _ _ _ _) _ _ c.smoothed.ensures c.loop_subdivision-made.ensures
