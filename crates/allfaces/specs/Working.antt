-- What the functions of the crate hand to one another, and what the removal within lists asks of its caller. Assumes nothing.
use Rattle.std.specs.Prelude.{ℕ, ◌+◌, ◌*◌, ◌≤◌, ◌<◌, List, length, take}
use Rattle.mesh.specs.Limits.{width, least_ring, face_limit}
use Rattle.mesh.specs.Full.{FacesAtLimits}
use Rattle.removal.specs.Working.{Fit, Ready}

-- corners and sizes, and room for the pieces of all the faces and their origins; the first face has number a
pub record Numbered (a : ℕ) (cs s out lens tags : List ℕ) : Type 0 where
  pub ready : Ready cs s out lens tags
  pub few : a + length s ≤ face_limit

-- the same behind c corners and f faces
pub record Behind (a : ℕ) (cs s out lens tags : List ℕ) (c f : ℕ) : Type 0 where
  pub fit : Fit cs s
  pub few : a + length s ≤ face_limit
  pub corners : width * c + length cs ≤ length out
  pub sizes : width * least_ring * f + length cs < width * least_ring * (length lens + 1)
  pub origins : width * least_ring * f + length cs < width * least_ring * (length tags + 1)

-- the first c numbers and the first f sizes of lists at the full limits, with three more such lists for their pieces
pub record Standing (cs s : List ℕ) (c f : ℕ) (ps lens tags : List ℕ) : Type 0 where
  pub corners : c ≤ length cs
  pub sizes : f ≤ length s
  pub fit : Fit (take c cs) (take f s)
  pub full : FacesAtLimits cs s
  pub room : FacesAtLimits ps lens
  pub tag_room : FacesAtLimits ps tags
