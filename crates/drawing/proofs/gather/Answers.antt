-- `drawing::gather` meets its contract: the coordinates stand where they were drawn, and the faces are grouped (`gathered`). Assumes nothing.
use Rattle.drawing.proofs.Handing.{gathered}
use Rattle.drawing.proofs.gather.Goals as goal

pub returns : goal.returns
returns c = gathered _ _ _ c.requires.drawing _ _ _ _ _ _ c.push_all-filled.ensures
