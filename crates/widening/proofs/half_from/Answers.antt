-- `widening::half_from` meets its contract: of three coordinates, half of the bits. Assumes nothing.
use Rattle.widening.proofs.Halves.{upper_is, lower_is}
use Rattle.widening.proofs.half_from.Goals as goal

pub returns-then-upper : goal.returns-then-upper
returns-then-upper c =
    upper_is _ _ _ _ _ _ c.if-upper.true c.bits_at-x.ensures c.bits_at-y.ensures c.bits_at-z.ensures

pub returns : goal.returns
returns c =
    lower_is _ _ _ _ _ _ c.if-upper.false c.bits_at-x.ensures c.bits_at-y.ensures c.bits_at-z.ensures
