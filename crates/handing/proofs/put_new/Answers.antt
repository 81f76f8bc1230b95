-- `handing::put_new` meets its contract: passed over, or put. Assumes nothing.
use Rattle.handing.proofs.Putting.{new_put}
use Rattle.handing.proofs.put_new.Goals as goal

pub returns : goal.returns
returns c =
    new_put _ _ _ _ _ c.if-number-found.false _ _ _ c.place_of.ensures c.point_from-point.ensures
    c.put_point.ensures
