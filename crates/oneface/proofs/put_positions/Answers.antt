-- All positions are read. Assumes nothing.
use Rattle.std.proofs.Common.{length, arith}
use Rattle.oneface.proofs.Flat.{positions_read}
use Rattle.oneface.proofs.put_positions.Goals as goal

pub returns : goal.returns
returns c =
    positions_read c.args.face.now (length c.args.row.now) c.requires.wide c.loop-k.row c.loop-k.auto.row (λ k h. c.loop-k.invariant k (omega arith))
