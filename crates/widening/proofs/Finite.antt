-- A point: its three coordinates, and one after the other up to one that is not finite. Assumes nothing.
use mathlib.Core.Path.{◌≡◌, sym, ap, ◌∙◌}
use mathlib.Core.List.{List, [], ◌∷◌}
use Prim.Native.Nat.{ℕ, ◌+◌, ◌*◌, ◌<◌}
use lib.Ieee.{Float}
use Rattle.little.specs.Little.{word_values, word}
use Rattle.scanned.specs.Scan.{coordinate_bytes, plain, point, point_from, widened, coordinates_of}
use Rattle.scanned.proofs.Points.{coordinates_point}

-- ---- a point of the file, from the bits of its coordinates

module _ (file : List ℕ) (i : ℕ) where
  pub point_made :
      (a b c : ℕ) (x y z : Float)
      → (a ≡ plain (word file i)) × (a < word_values)
      → (b ≡ plain (word file (i + coordinate_bytes))) × (b < word_values)
      → (c ≡ plain (word file (i + 2 * coordinate_bytes))) × (c < word_values)
      → x ≡ widened a → y ≡ widened b → z ≡ widened c → x ∷ y ∷ z ∷ [] ≡ coordinates_of (point_from file i)
  unfolding point_from
  point_made a b c x y z ea eb ec ex ey ez =
      (λ j. ex j ∷ ey j ∷ ez j ∷ [])
      ∙ sym (coordinates_point a b c ea.1 eb.1)
      ∙ ap coordinates_of (λ j. point (ea.0 j) (eb.0 j) (ec.0 j))
