-- `answers::part` meets its contract: an empty part starts at 0, any other behind the faces before it. Assumes nothing.
use Rattle.answers.proofs.PartOfFace.{there, few, empty, filled}
use native.Mathlib.Omega.{arith}
use Rattle.answers.proofs.part.Goals as goal

pub offset-requires : goal.offset-requires
offset-requires c = let t = there _ _ _ c.face-part.ensures c.if-n-ne0.true in (omega (arith, t.is_face), few _ _ t)

pub overflow_mul-start : goal.overflow_mul-start
overflow_mul-start c = let t = there _ _ _ c.face-part.ensures c.if-n-ne0.true in omega (arith, t.is_face, few _ _ t, c.offset.ensures.1)

pub returns-then-n-ne0 : goal.returns-then-n-ne0
returns-then-n-ne0 c = filled _ _ _ _ c.face-part.ensures (there _ _ _ c.face-part.ensures c.if-n-ne0.true) c.offset.ensures.0

pub returns-else-n-ne0 : goal.returns-else-n-ne0
returns-else-n-ne0 c = empty _ _ _ c.face-part.ensures c.if-n-ne0.false
