-- Two bounds of a root: those of a distance's root, and a number between two bounds that takes the place of the one or the other. Assumes
-- nothing.
use mathlib.Core.Path.{◌≡◌, refl, subst}
use mathlib.Core.Bool.{Bool, true, false}
use Prim.Native.Nat.{ℕ, max, ◌+◌, ◌*◌, ◌/◌, ◌≤◌, ◌<◌}
use native.Mathlib.Nat.{mul-le-mul}
use native.Mathlib.Omega.{arith}
use lib.Dec.{leb}
use borrow.Author.Tests.{leb-true, leb-false}
use Rattle.roots.specs.Roots.{Root, Within, root_limit, square_limit}
use Rattle.roots.specs.Distances.{squares, Spanned}
use Rattle.roots.proofs.Greatest.{square_grows}

-- squares of what stays below 2^22
pub square_few : (n : ℕ) → n ≤ root_limit → n * n ≤ square_limit
square_few n h = mul-le-mul h h

-- what bounds two squares bounds that of the larger
larger_square : (a b n : ℕ) → a * a ≤ n → b * b ≤ n → max a b * max a b ≤ n
larger_square a b n p q = go (leb a b) refl
  where
    go : (t : Bool) → leb a b ≡ t → max a b * max a b ≤ n
    go true t = let e : max a b ≡ b = omega (arith, leb-true a b t) in rw e q
    go false t = let e : max a b ≡ a = omega (arith, leb-false a b t) in rw e p

-- no difference is above the greatest of the three, m, so that the squared distance is at most three times its square: m is not above the
-- root, and what stands behind twice m is
pub within_all : (x y z m : ℕ) → Spanned x y z → m ≡ max (max x y) z → Within (squares x y z) m (m + m + 1)
within_all x y z m s e =
    let a : x ≤ m = omega arith in
    let b : y ≤ m = omega arith in
    let c : z ≤ m = omega arith in
    let k : (m + m) * (m + m) ≡ m * m + m * m + (m * m + m * m) = omega arith in
    record {
      ordered = omega arith;
      few = omega (arith, s.first, s.second, s.third);
      above = rw e (larger_square (max x y) z (squares x y z) (larger_square x y (squares x y z) (omega arith) (omega arith)) (omega arith));
      below = omega (arith, mul-le-mul a a, mul-le-mul b b, mul-le-mul c c, square_grows (m + m) (m + m + 1) (omega arith));
    }

module _ (x low high : ℕ) (w : Within x low high) (apart : low + 1 < high) where
  pub raised : (low + high) / 2 * ((low + high) / 2) ≤ x → Within x ((low + high) / 2) high
  raised h = record { ordered = omega arith; few = w.few; above = h; below = w.below }

  pub lowered : x < (low + high) / 2 * ((low + high) / 2) → Within x low ((low + high) / 2)
  lowered h = record { ordered = omega arith; few = (let a : _ = w.few in omega arith); above = w.above; below = h }

-- side by side
pub within_one_lem : (x low high : ℕ) → Within x low high → high ≤ low + 1 → Root x low
within_one_lem x low high w l =
    let o : low < high = w.ordered in
    let e : high ≡ low + 1 = omega arith in
    record { at_most = w.above; greatest = subst (λ n. x < n * n) e w.below }
