-- The two halves of a point, by its coordinates. Assumes nothing.
use mathlib.Core.Path.{◌≡◌, sym, ap, ap₂, ◌∙◌}
use Prim.Native.Nat.{ℕ, ◌+◌, ◌*◌, ◌/◌, ◌%◌, ◌<◌}
use native.Mathlib.Omega.{arith}
use mathlib.Core.Bool.{Bool, true, false}
use mathlib.Core.List.{List}
use Rattle.little.specs.Little.{word_values, word}
use Rattle.scanned.specs.Scan.{coordinate_bytes, plain, point, point_from}
use Rattle.widening.specs.Halves.{half_points, half_of}

-- what is left of a number and of so many times a half's values, and how many times
rest_of : (r q : ℕ) → r < half_points → (r + 281474976710656 * q) % 281474976710656 ≡ r
rest_of r q h = omega arith

times_of : (r q : ℕ) → r < half_points → (r + 281474976710656 * q) / 281474976710656 ≡ q
times_of r q h = omega arith

module _ (x y z : ℕ) (h : x < word_values) where
  -- the lower half is that of x and of the lower half of y
  small : x + 4294967296 * (y % 65536) < half_points
  small = omega arith

  apart : x + 4294967296 * (y + 4294967296 * z) ≡ (x + 4294967296 * (y % 65536)) + 281474976710656 * (y / 65536 + 65536 * z)
  apart = omega arith

  pub lower_half : x + 4294967296 * (y % 65536) ≡ half_of false (point x y z)
  unfolding half_of point
  lower_half = sym (ap (λ (n : ℕ). n % 281474976710656) apart ∙ rest_of _ _ small)

  pub upper_half : y / 65536 + 65536 * z ≡ half_of true (point x y z)
  unfolding half_of point
  upper_half = sym (ap (λ (n : ℕ). n / 281474976710656) apart ∙ times_of _ _ small)

-- ---- the half of a point of the file

module _ (file : List ℕ) (i : ℕ) (upper : Bool) (x y z : ℕ) where
  whole :
      x ≡ plain (word file i) → y ≡ plain (word file (i + coordinate_bytes)) → z ≡ plain (word file (i + 2 * coordinate_bytes))
      → point x y z ≡ point_from file i
  unfolding point_from
  whole ex ey ez = λ j. point (ex j) (ey j) (ez j)

  pub upper_is :
      upper ≡ true
      → (x ≡ plain (word file i)) × (x < word_values)
      → (y ≡ plain (word file (i + coordinate_bytes))) × (y < word_values)
      → (z ≡ plain (word file (i + 2 * coordinate_bytes))) × (z < word_values)
      → (y / 65536 + 65536 * z ≡ half_of upper (point_from file i)) × (y / 65536 + 65536 * z < half_points)
  upper_is u (ex, hx) (ey, hy) (ez, hz) =
      (upper_half x y z hx ∙ ap₂ (λ (b : Bool) (p : ℕ). half_of b p) (sym u) (whole ex ey ez), omega arith)

  pub lower_is :
      upper ≡ false
      → (x ≡ plain (word file i)) × (x < word_values)
      → (y ≡ plain (word file (i + coordinate_bytes))) × (y < word_values)
      → (z ≡ plain (word file (i + 2 * coordinate_bytes))) × (z < word_values)
      → (x + 4294967296 * (y % 65536) ≡ half_of upper (point_from file i)) × (x + 4294967296 * (y % 65536) < half_points)
  lower_is u (ex, hx) (ey, hy) (ez, hz) =
      (lower_half x y z hx ∙ ap₂ (λ (b : Bool) (p : ℕ). half_of b p) (sym u) (whole ex ey ez), small x y z hx)
