-- The search through the positions finds one that comes again exactly where the face is folded. Assumes nothing.
use Rattle.oneface.proofs.OneFace.{ring_folded}
use Rattle.oneface.proofs.folded_within.Goals as goal

pub returns : goal.returns
returns g c = ring_folded _ _ _ c.put_positions.ensures c.first.ensures
