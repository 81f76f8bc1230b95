-- All corners are read. Assumes nothing.
use Rattle.std.proofs.Common.{arith}
use Rattle.oneface.proofs.Flat.{corners_read}
use Rattle.oneface.proofs.corners_of.Goals as goal

pub returns : goal.returns
returns g c =
    corners_read c.args.face.now g.row.N c.requires.0 _ c.loop-k.invariant.0 (λ k h. c.loop-k.invariant.1 k (omega arith))
