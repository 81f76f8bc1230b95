-- `drawing::hand_over` meets its contract: the fronts of the reader's own lists are what was drawn, and the faces are grouped. Assumes nothing.
use Rattle.drawing.proofs.Handing.{handed}
use Rattle.drawing.proofs.hand_over.Goals as goal

pub returns : goal.returns
returns c =
    handed _ _ _ c.requires.0 _ _ _ _ _ _ _ _ _ _ _ _ c.put.ensures c.put-2.ensures c.put-3.ensures c.push_all-filled.ensures
