-- `scanfile::some_not_finite` meets its contract: one point after the other. Assumes nothing.
use Rattle.scanfile.proofs.Finite.{find_found, find_turns, find_ends}
use Rattle.scanfile.proofs.some_not_finite.Goals as goal

pub returns-then-not_finite_from : goal.returns-then-not_finite_from
returns-then-not_finite_from c =
    find_found _ _ _ _ _ c.loop-k-test.true c.place_of.ensures c.not_finite_from.ensures c.if-not_finite_from.true

pub loop-k-preserved : goal.loop-k-preserved
loop-k-preserved c =
    find_turns _ _ _ _ _ c.loop-k-test.true c.place_of.ensures c.not_finite_from.ensures c.if-not_finite_from.false
    c.loop-k.invariant

pub returns : goal.returns
returns c = find_ends _ _ _ c.loop-k-test.false c.loop-k.invariant
