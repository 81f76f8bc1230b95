-- A walk over the faces, one after the other: before face k stand `from` corners. Each loop over faces keeps it, whatever else it keeps.
-- Assumes nothing.
use Rattle.std.proofs.Common.{◌≡◌, ℕ, ◌+◌, ◌*◌, ◌<◌, ◌≤◌, List, length, get_or, refl, arith}
use Rattle.mesh.specs.Limits.{width}
use Rattle.mesh.specs.Face.{offset_of, Sound, Here}
use Rattle.mesh.proofs.Faces.{face_fits, offset_step}

pub record Walking (s : List ℕ) (from k : ℕ) : Type 0 where
  pub within : k ≤ length s
  pub offset : from ≡ offset_of s k

pub walk_begins : (s : List ℕ) → Walking s 0 0
walk_begins s = record { within = omega arith; offset = refl }

-- past face k
pub walk_turns : (s : List ℕ) (from k : ℕ) → k < length s → Walking s from k → Walking s (from + get_or s k 0) (k + 1)
walk_turns s from k h w = record { within = omega arith; offset = omega (arith, w.offset, offset_step s k h) }

-- the part of face k can be taken, and it lies within the corners
pub walk_here : (cs s : List ℕ) (from k : ℕ) → Sound cs s → k < length s → Walking s from k → Here cs s k from
walk_here cs s from k f h w = record { sound = f; is_face = h; offset = w.offset }

pub walk_fits : (cs s : List ℕ) (from k : ℕ) → Sound cs s → k < length s → Walking s from k → width * (from + get_or s k 0) ≤ length cs
walk_fits cs s from k f h w = omega (arith, w.offset, face_fits cs s f k h)
