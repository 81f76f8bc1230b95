-- `barleyhinge::bh_house_wires` meets its contract: what the call promises of its answer, taken apart. Assumes nothing.
use Rattle.house.specs.Answers.{HouseAnswer}
use Rattle.barleyhinge.proofs.Taken.{taken}
use Rattle.barleyhinge.proofs.bh_house_wires.Goals as goal

pub returns : goal.returns
returns c = taken (HouseAnswer _ _ _) _ _ c.wired.ensures c.house_wires-house.ensures
