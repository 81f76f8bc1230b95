-- Points: three coordinates kept together, a texture point two; and where a point stands in a flat list. Assumes nothing.
use Rattle.std.specs.Prelude.{List, [], ◌∷◌, ◌≡◌, ℕ, ◌+◌, ◌*◌, ◌%◌, ◌≤◌, length, get_or, take, drop, Float}
use Rattle.std.specs.Float.{nan}
use Rattle.floating.specs.declared.Point.{Point}
use Rattle.floating.specs.declared.Texel.{Texel}

abbrev pub point : Float → Float → Float → Point
point a b c = record { x = a; y = b; z = c }

abbrev pub texel : Float → Float → Texel
texel a b = record { u = a; v = b }

-- the coordinates of a point, in their order; the first w of them
abbrev pub coordinates : Point → List Float
coordinates p = p.x ∷ p.y ∷ p.z ∷ []

abbrev pub leading : ℕ → Point → List Float
leading w p = take w (coordinates p)

-- point i of a flat list
unfoldable pub point_at : List Float → ℕ → Point
point_at s i = point (get_or s (3 * i) nan) (get_or s (3 * i + 1) nan) (get_or s (3 * i + 2) nan)

-- the points of a flat list, three coordinates each
abbrev pub points_of : List Float → List Point
points_of [] = []
points_of (a ∷ []) = []
points_of (a ∷ b ∷ []) = []
points_of (a ∷ b ∷ c ∷ s) = point a b c ∷ points_of s

-- the w numbers of point i in a flat list of points of width w
module _ {A : Type 0} where
  unfoldable pub row : ℕ → List A → ℕ → List A
  row w s i = take w (drop (w * i) s)

-- a flat list of points of width 3, of which there is one at least
pub record Whole (s : List Float) : Type 0 where
  pub some : 3 ≤ length s
  pub even : length s % 3 ≡ 0
