-- The uses of the first i corners are written. Assumes nothing.
use Rattle.uses.proofs.Facing.{Cornering}
use Rattle.uses.proofs.put_face.Given as goal

abbrev pub invariant-loop-i : goal.invariant-loop-i
invariant-loop-i l = Cornering l.face l.initial.lowers l.initial.highers l.initial.downs l.lowers l.highers l.downs l.at l.i
