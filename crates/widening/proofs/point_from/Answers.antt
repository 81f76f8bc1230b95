-- `widening::point_from` meets its contract: three coordinates, each widened. Assumes nothing.
use Rattle.widening.proofs.Finite.{point_made}
use Rattle.widening.proofs.point_from.Goals as goal

pub returns : goal.returns
returns c =
    point_made _ _ _ _ _ _ _ _ c.bits_at-x.ensures c.bits_at-y.ensures c.bits_at-z.ensures
    c.widened.ensures c.widened-2.ensures c.widened-3.ensures
