-- The corners before corner k are read. Assumes nothing.
use Rattle.std.proofs.Common.{◌≡◌, ℕ, ◌<◌, [], length, get_or}
use Rattle.mesh.specs.Mesh.{corner_at}
use Rattle.oneface.proofs.corners_of.Given as goal

abbrev pub invariant-loop-k : goal.invariant-loop-k
invariant-loop-k g l = (length l.corner-items ≡ g.row.N) × ((k : ℕ) → k < l.k → get_or l.corner-items k [] ≡ corner_at l.face k)
