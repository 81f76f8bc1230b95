-- The positions of the corners before corner k are read. Assumes nothing.
use Rattle.std.proofs.Common.{◌≡◌, ℕ, ◌*◌, ◌<◌, get_or}
use Rattle.mesh.specs.Limits.{width}
use Rattle.oneface.proofs.put_positions.Given as goal

abbrev pub invariant-loop-k : goal.invariant-loop-k
invariant-loop-k l = (k : ℕ) → k < l.k → get_or l.row k 0 ≡ get_or l.face (width * k) 0
