-- `barleyhinge::bh_list_hems` meets its contract: what the call promises of its answer, taken apart. Assumes nothing.
use Rattle.hemlist.specs.Answer.{HemsListed}
use Rattle.barleyhinge.proofs.Taken.{taken}
use Rattle.barleyhinge.proofs.bh_list_hems.Goals as goal

pub returns : goal.returns
returns c =
    let list-hems = c.list_hems-list in
    taken (HemsListed _ _ _ _) _ _ c.listed.ensures list-hems.ensures
