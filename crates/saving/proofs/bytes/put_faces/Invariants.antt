-- The records of the first k faces are stored.
use Rattle.saving.proofs.Faces.{PuttingFaces}
use Rattle.saving.proofs.bytes.put_faces.Given as goal

abbrev pub invariant-loop-k : goal.invariant-loop-k
invariant-loop-k l = PuttingFaces l.corners l.sizes l.initial.out l.out l.at l.to l.from l.k
