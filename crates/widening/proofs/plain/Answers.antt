-- `widening::plain` meets its contract: by the test. Assumes nothing.
use Rattle.scanned.proofs.Points.{plain_zero, plain_other}
use native.Mathlib.Omega.{arith}
use Rattle.widening.proofs.plain.Goals as goal

pub returns-then-n-eq-MINUS_ZERO : goal.returns-then-n-eq-MINUS_ZERO
returns-then-n-eq-MINUS_ZERO c = (plain_zero _ c.if-n-eq-MINUS_ZERO.true, omega arith)

pub returns-else-n-eq-MINUS_ZERO : goal.returns-else-n-eq-MINUS_ZERO
returns-else-n-eq-MINUS_ZERO c = (plain_other _ c.if-n-eq-MINUS_ZERO.false, omega arith)
