-- What the code of the list rests on, and no rules of document 02. Assumes nothing.
use Rattle.std.specs.Prelude.{◌≡◌, false, List, ℕ, ◌+◌, ◌*◌, ◌<◌, length, ℤ}
use Rattle.mesh.specs.Limits.{point_width}
use Rattle.roots.specs.Distances.{Reached}
use Rattle.hemlist.specs.HemList.{point_of, beyond_reach}

-- position p has its three coordinates, none beyond reach
pub record Placed (cs : List ℤ) (p : ℕ) : Type 0 where
  pub there : point_width * p + 2 < length cs
  pub reached : Reached (point_of cs p)

-- one triple for each of n positions, no coordinate beyond reach
pub record Located (cs : List ℤ) (n : ℕ) : Type 0 where
  pub long : length cs ≡ point_width * n
  pub within : beyond_reach cs ≡ false
