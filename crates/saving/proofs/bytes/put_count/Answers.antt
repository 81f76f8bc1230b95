-- `saving::bytes::put_count` meets its contract: two bytes where the face is wide. Assumes nothing.
use Rattle.std.proofs.Common.{arith}
use Rattle.little.proofs.Written.{length_half}
use Rattle.written.specs.Pieces.{count_bytes}
use Rattle.saving.proofs.bytes.put_count.Goals as goal

pub put_half-requires : goal.put_half-requires
unfolding count_bytes
put_half-requires c = omega (arith, length_half c.args.n, rw (← c.if-is_wide.ensures) at c.requires.fits)

pub returns-then-is_wide : goal.returns-then-is_wide
unfolding count_bytes
returns-then-is_wide c = rw (← c.if-is_wide.ensures) (record { file = c.put_half.ensures; place = omega (arith, length_half c.args.n) })
