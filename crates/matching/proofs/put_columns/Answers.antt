-- `matching::put_columns` meets its contract: one point more at a time. Assumes nothing.
use Rattle.matching.proofs.Filling.{fill_turns, half_key}
use native.Mathlib.Omega.{arith}
use Rattle.matching.proofs.put_columns.Goals as goal

pub loop-k-preserved : goal.loop-k-preserved
loop-k-preserved c =
    let inv = c.loop-k.invariant in
    fill_turns _ _ _ _ _ _ _ _ _ _ _ _ (omega (arith, c.loop-k-test.true, inv.a_long))
    (half_key _ _ _ _ _ c.half_from-h.ensures c.place_of.ensures) c.put_digits.ensures inv
