-- A point and the bits of its coordinates: each is told from the other. Assumes nothing.
use mathlib.Core.Path.{◌≡◌, ap, ◌∙◌}
use mathlib.Core.List.{[], ◌∷◌, map}
use Prim.Native.Nat.{ℕ, ◌+◌, ◌*◌, ◌/◌, ◌%◌, ◌<◌}
use native.Mathlib.Omega.{arith}
use lib.Dec.{eqb}
use borrow.Author.Tests.{eq-eqb, ne_eqb}
use Rattle.lists.proofs.Bools.{by_cases}
use Rattle.little.specs.Little.{word_values}
use Rattle.scanned.specs.Scan.{minus_zero, plain, point, bits_of, widened, coordinates_of}

-- ---- a negative zero is read as zero

module _ (n : ℕ) where
  pub plain_zero : n ≡ minus_zero → 0 ≡ plain n
  unfolding plain
  plain_zero e = rw (eq-eqb n minus_zero e)

  pub plain_other : (n ≡ minus_zero → ⊥) → n ≡ plain n
  unfolding plain
  plain_other ne = rw (ne_eqb n minus_zero ne)

  pub plain_below : n < word_values → plain n < word_values
  unfolding plain
  plain_below h = by_cases (eqb n minus_zero) (λ e. rw e (omega arith)) (λ e. rw e h)

-- ---- the bits of a point

module _ (x y z : ℕ) (hx : x < word_values) (hy : y < word_values) where
  pub bits_point : bits_of (point x y z) ≡ x ∷ y ∷ z ∷ []
  unfolding bits_of point
  bits_point =
      let p : ℕ = x + 4294967296 * (y + 4294967296 * z) in
      let a : (x + 4294967296 * (y + 4294967296 * z)) % 4294967296 ≡ x = omega arith in
      let b : (x + 4294967296 * (y + 4294967296 * z)) / 4294967296 ≡ y + 4294967296 * z = omega arith in
      let c : (y + 4294967296 * z) % 4294967296 ≡ y = omega arith in
      let d : (y + 4294967296 * z) / 4294967296 ≡ z = omega arith in
      λ i. a i ∷ (ap (λ (n : ℕ). n % 4294967296) b ∙ c) i ∷ (ap (λ (n : ℕ). n / 4294967296) b ∙ d) i ∷ []

  pub coordinates_point : coordinates_of (point x y z) ≡ widened x ∷ widened y ∷ widened z ∷ []
  unfolding coordinates_of
  coordinates_point = ap (map widened) bits_point
