-- What the functions of the crate hand to one another and ask of a caller; the rule stands in smoothed's specs/Smoothed.antt. Assumes
-- nothing.
use Rattle.std.specs.Prelude.{◌≡◌, List, ℕ, ◌+◌, ◌*◌, ◌≤◌, ◌<◌, length, get_or}
use Rattle.mesh.specs.Limits.{width, least_ring, entry_limit, corner_limit, corner_numbers}
use Rattle.mesh.specs.Mesh.{Ring, corner_at}
use Rattle.smoothed.specs.Smoothed.{fold, bare, quartered}
use Rattle.smoothed.specs.Columns.{triangles, Triangular, edge_numbers}

-- how many numbers a triangle has
abbrev pub triangle_numbers : ℕ
triangle_numbers = width * least_ring

-- triangles over n positions, the numbers of their edges, and room for four for each
pub record Given (cs es : List ℕ) (n : ℕ) (out : List ℕ) : Type 0 where
  pub triangular : Triangular cs n
  pub numbers : es ≡ edge_numbers (triangles cs)
  pub room : fold * length cs ≤ length out

-- the four triangles of triangle k, by the flat lists
abbrev pub four_at : List ℕ → List ℕ → ℕ → ℕ → List Ring
four_at cs es n k =
    quartered
    (corner_at cs (least_ring * k))
    (corner_at cs (least_ring * k + 1))
    (corner_at cs (least_ring * k + 2))
    (bare (n + get_or es (least_ring * k) 0))
    (bare (n + get_or es (least_ring * k + 1) 0))
    (bare (n + get_or es (least_ring * k + 2) 0))

-- triangle k and the numbers of its edges are there, and room for four
pub record FourRoom (cs es : List ℕ) (n k : ℕ) (out : List ℕ) : Type 0 where
  pub few : n ≤ entry_limit
  pub within : triangle_numbers * (k + 1) ≤ length cs
  pub small : length cs ≤ corner_numbers
  pub long : least_ring * (k + 1) ≤ length es
  pub below : (i : ℕ) → i < length es → get_or es i 0 ≤ corner_limit
  pub room : fold * triangle_numbers * (k + 1) ≤ length out
