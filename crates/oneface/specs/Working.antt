-- What the functions of the crate ask of a face and of the room for its pieces. Assumes nothing.
use Rattle.std.specs.Prelude.{ℕ, ◌*◌, ◌≤◌, ◌≡◌, List, length}
use Rattle.mesh.specs.Limits.{width, least_ring, ring_limit}
use Rattle.folding.specs.Working.{Room}

-- the flat corners of a face of n corners
pub record Corners (face : List ℕ) (n : ℕ) : Type 0 where
  pub small : n ≤ ring_limit
  pub wide : length face ≡ width * n

-- a face of n corners, no fewer than a face may have, and room for its pieces behind c corners and f faces
pub record Face (face : List ℕ) (n : ℕ) (out lens : List ℕ) (c f : ℕ) : Type 0 where
  pub least : least_ring ≤ n
  pub wide : length face ≡ width * n
  pub room : Room n out lens c f
