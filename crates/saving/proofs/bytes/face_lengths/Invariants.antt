-- The lengths of the first k faces are added up.
use Rattle.saving.proofs.Cornering.{Totalling}
use Rattle.saving.proofs.bytes.face_lengths.Given as goal

abbrev pub invariant-loop-k : goal.invariant-loop-k
invariant-loop-k l = Totalling l.corners l.sizes l.total l.from l.k
