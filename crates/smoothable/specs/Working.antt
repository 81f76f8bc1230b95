-- What the functions of the crate hand to one another; a caller needs none of it. Assumes nothing.
use Rattle.std.specs.Prelude.{◌≡◌, List, map, ℕ, ◌*◌, ◌/◌, ◌%◌, ◌≤◌, ◌<◌, length, get_or, eqb}
use Rattle.lists.specs.Lists.{has}
use Rattle.mesh.specs.Limits.{width, least_ring, corner_numbers}
use Rattle.mesh.specs.Mesh.{position, corners_in}

-- triangles, and an entry for each position, none of them marked
pub record Markable (cs used : List ℕ) : Type 0 where
  pub whole : length cs % (width * least_ring) ≡ 0
  pub few : length cs ≤ corner_numbers
  pub below : (k : ℕ) → k < length cs / width → get_or cs (width * k) 0 < length used
  pub fresh : (p : ℕ) → p < length used → get_or used p 0 ≡ 0

-- those that some corner has are marked, no others
pub record Marked (cs used used' : List ℕ) : Type 0 where
  pub long : length used' ≡ length used
  pub marks : (p : ℕ) → p < length used → eqb (get_or used' p 0) 1 ≡ has p (map position (corners_in cs))
