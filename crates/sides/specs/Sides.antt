-- The uses of the edges of triangles, as columns of one number for each use, face after face and in the Rust's order; and which use of
-- an edge is the first. The rules stand in crate smoothed. Assumes nothing.
use Rattle.std.specs.Prelude.{◌≡◌, true, false, List, map, ℕ, ◌/◌, ◌≤◌, ◌<◌, length, get_or}
use Rattle.lists.specs.Lists.{each}
use Rattle.mesh.specs.Limits.{width, entry_limit, corner_limit}
use Rattle.mesh.specs.Mesh.{Ring}
use Rattle.verdicts.specs.Edges.{Edge, same}
use Rattle.smoothed.specs.Around.{Use, uses_of}
use Rattle.smoothed.specs.Columns.{Triangular}

-- of a use: the lower and the higher position of its edge, and the wing
abbrev pub lower_of : Use → ℕ
lower_of u = u.0.0

abbrev pub higher_of : Use → ℕ
higher_of u = u.0.1

abbrev pub wing_of : Use → ℕ
wing_of u = u.1

-- triangles, and a row of one number for each corner in each of three
pub record SideRoom (cs lower higher wing : List ℕ) : Type 0 where
  pub triangular : Triangular cs entry_limit
  pub lower_long : length lower ≡ length cs / width
  pub higher_long : length higher ≡ length cs / width
  pub wing_long : length wing ≡ length cs / width

-- the columns of all uses
pub record Sides (fs : List Ring) (lower higher wing : List ℕ) : Type 0 where
  pub lower_is : lower ≡ map lower_of (each uses_of fs)
  pub higher_is : higher ≡ map higher_of (each uses_of fs)
  pub wing_is : wing ≡ map wing_of (each uses_of fs)

-- ---- which use is the first

-- the edge of use x
abbrev pub edge_at : List ℕ → List ℕ → ℕ → Edge
edge_at lower higher x = (get_or lower x 0, get_or higher x 0)

-- positions, and room for one number for each use
pub record EdgeColumns (lower higher firsts : List ℕ) : Type 0 where
  pub few : length lower ≤ corner_limit
  pub higher_long : length higher ≡ length lower
  pub firsts_long : length firsts ≡ length lower
  pub lower_below : (x : ℕ) → x < length lower → get_or lower x 0 < entry_limit
  pub higher_below : (x : ℕ) → x < length lower → get_or higher x 0 < entry_limit

-- f is the first use of the edge of use x
pub record FirstUse (lower higher : List ℕ) (x f : ℕ) : Type 0 where
  pub upto : f ≤ x
  pub again : same (edge_at lower higher x) (edge_at lower higher f) ≡ true
  pub none : (y : ℕ) → y < f → same (edge_at lower higher x) (edge_at lower higher y) ≡ false

-- each use is marked with the first use of its edge
pub record Marked (lower higher firsts : List ℕ) : Type 0 where
  pub long : length firsts ≡ length lower
  pub first : (x : ℕ) → x < length lower → FirstUse lower higher x (get_or firsts x 0)
