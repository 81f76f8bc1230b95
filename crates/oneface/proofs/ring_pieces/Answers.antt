-- A face that is not folded stays. Assumes nothing.
use Rattle.grouping.proofs.Placing.{placed_as}
use Rattle.oneface.proofs.OneFace.{ring_kept}
use Rattle.oneface.proofs.ring_pieces.Goals as goal

pub returns : goal.returns
returns c = placed_as (ring_kept c.args.face.now c.args.n _ _ _ _ c.requires c.folded_ring.result c.folded_ring.ensures c.if-folded_ring.false) c.put_face.ensures
