-- `barleyhinge::bh_hem_edges` meets its contract: what the call promises of its answer, taken apart. Assumes nothing.
use Rattle.edges.specs.Answers.{HemAnswer}
use Rattle.barleyhinge.proofs.Taken.{taken}
use Rattle.barleyhinge.proofs.bh_hem_edges.Goals as goal

pub returns : goal.returns
returns c = taken (HemAnswer _ _ _) _ _ c.hemmed.ensures c.hem_edges-hems.ensures
