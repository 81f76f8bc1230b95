-- The flag says whether one of the corners before k is astray.
use Rattle.mesh.specs.Seen.{seen}
use Rattle.mesh.proofs.Rows.{Straying}
use Rattle.mesh.proofs.Mesh.is_astray.Given as goal

abbrev pub invariant-loop-position : goal.invariant-loop-position
invariant-loop-position l = Straying (seen l.self) l.found l.position-index
