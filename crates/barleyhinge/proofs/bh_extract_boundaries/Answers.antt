-- `barleyhinge::bh_extract_boundaries` meets its contract: what the call promises of its answer, taken apart. Assumes nothing.
use Rattle.ported.specs.Answers.{PortedAnswer}
use Rattle.barleyhinge.proofs.Taken.{taken}
use Rattle.barleyhinge.proofs.bh_extract_boundaries.Goals as goal

pub returns : goal.returns
returns c = taken (PortedAnswer _ _ _) _ _ c.wired.ensures c.extract_boundaries-ported.ensures
