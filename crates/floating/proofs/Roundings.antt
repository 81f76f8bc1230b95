-- How far rounding moves a number of units: powers of two stay, a number grows to no more than twice itself, and rounding a signed number
-- does not pass a float. Assumes nothing.
use mathlib.Core.Path.{◌≡◌, sym, ap, ◌∙◌, subst}
use mathlib.Core.Bool.{Bool, true, false}
use Prim.Native.Nat.{ℕ, suc, ◌+◌, ◌-◌, ◌*◌, ◌^◌, ◌≤◌, ◌<◌}
use native.Mathlib.Nat.{one-mul, mul-le-mul_right}
use native.Mathlib.Omega.{arith}
use lib.Dec.{ltb, eqb}
use lib.Pow.{pow_pos, pow_mono}
use lib.Ieee.Fits.{two}
use lib.Ieee.{Format, prec, emax, low, size}
use lib.Ieee.Digits.{size-lt, size_reaches}
use lib.Ieee.Scale.{grid, overflow}
use borrow.Author.Tests.{ltb-true, ltb-false, eqb-true, eqb-false}
use Rattle.lists.proofs.Bools.{by_cases}
use Rattle.floating.proofs.Units.{grid_exact, round_upto, round_least}
use Rattle.floating.proofs.Heights.{height}

-- a number lies between a power of two and twice that
pub record Between (n : ℕ) : Type 0 where
  pub place : ℕ
  pub least : 2 ^ place ≤ n
  pub most : n ≤ 2 ^ suc place

between : (n : ℕ) → 0 < n → Between n
between n h =
    let z : 0 < size n = by_cases (eqb (size n) 0)
    (λ t. absurd (let l : n < 2 ^ 0 = subst (λ (k : ℕ). n < 2 ^ k) (eqb-true (size n) 0 t) (size-lt n) in omega arith))
    (λ t. let ne : size n ≡ 0 → ⊥ = eqb-false (size n) 0 t in omega arith) in
    let e : size n ≡ suc (size n - 1) = omega arith in
    record {
      place = size n - 1;
      least = size_reaches n (size n - 1) (omega arith);
      most = (let l : n < 2 ^ suc (size n - 1) = subst (λ (k : ℕ). n < 2 ^ k) e (size-lt n) in omega arith);
    }

module _ (f : Format) where
  -- one, in units of the smallest number
  abbrev U : ℕ
  U = 2 ^ low f

  pub unit_pos : 0 < U
  unit_pos = pow_pos (low f)

  one_digit : 1 < 2 ^ prec f
  one_digit = digits (prec f) (two f)
    where
      digits : (p : ℕ) → 2 ≤ p → 1 < 2 ^ p
      digits p h = let z : 2 ^ 1 ≤ 2 ^ p = pow_mono (let y : 1 ≤ p = omega arith in y) in omega arith

  -- ---- powers of two, and zero, are their own roundings

  pub power_exact : (j : ℕ) → 2 ^ j < overflow f → grid f (2 ^ j) U ≡ 2 ^ j
  power_exact j h =
      subst (λ (k : ℕ). grid f k U ≡ k) (one-mul (2 ^ j)) (grid_exact f 1 j one_digit (subst (λ (k : ℕ). k < overflow f) (sym (one-mul (2 ^ j))) h))

  zero_exact : grid f 0 U ≡ 0
  zero_exact = grid_exact f 0 0 (pow_pos (prec f)) (pow_pos (low f + suc (emax f)))

  -- a number of units is rounded to no more than twice itself, and half of that to no more than itself
  rounds_to : (n : ℕ) (b : Between n) → 2 * n < overflow f → grid f n U ≤ 2 ^ suc b.place
  rounds_to n b h =
      let p : 2 ^ suc b.place ≡ 2 * 2 ^ b.place = omega arith in
      let l : 2 ^ suc b.place < overflow f = omega (arith, b.least) in
      round_upto f n U (2 ^ suc b.place) unit_pos (power_exact (suc b.place) l) l (mul-le-mul_right U b.most)

  rounds_none : (n : ℕ) → ltb 0 n ≡ false → grid f n U ≡ 0
  rounds_none n t = let z : n ≡ 0 = (let l = ltb-false 0 n t in omega arith) in ap (λ (k : ℕ). grid f k U) z ∙ zero_exact

  pub rounds : (n : ℕ) → 2 * n < overflow f → grid f n U ≤ 2 * n
  rounds n h =
      by_cases (ltb 0 n)
      (λ t.
      let b = between n (ltb-true 0 n t) in
      let p : 2 ^ suc b.place ≡ 2 * 2 ^ b.place = omega arith in
      let g = rounds_to n b h in
      omega (arith, b.least))
      (λ t. let g = rounds_none n t in omega arith)

  pub halves : (n : ℕ) → 2 * n < overflow f → grid f (grid f n U) (2 * U) ≤ n
  halves n h =
      by_cases (ltb 0 n)
      (λ t.
      let b = between n (ltb-true 0 n t) in
      let p : 2 ^ suc b.place ≡ 2 * 2 ^ b.place = omega arith in
      let l : 2 ^ suc b.place < overflow f = omega (arith, b.least) in
      let m : grid f n U * U ≤ 2 ^ suc b.place * U = mul-le-mul_right U (rounds_to n b h) in
      let q : 2 ^ suc b.place * U ≡ 2 ^ b.place * (2 * U) = ap (λ (i : ℕ). i * U) p ∙ omega arith in
      let k : grid f n U * U ≤ 2 ^ b.place * (2 * U) = omega arith in
      let pair : 0 < 2 * U = (let z = unit_pos in omega arith) in
      let d : grid f (grid f n U) (2 * U) ≤ 2 ^ b.place =
      round_upto f (grid f n U) (2 * U) (2 ^ b.place) pair (power_exact b.place (omega arith)) (omega arith) k in
      omega (arith, b.least))
      (λ t.
      let y : grid f n U * U ≡ 0 = ap (λ (k : ℕ). k * U) (rounds_none n t) ∙ omega arith in
      let pair : 0 < 2 * U = (let z = unit_pos in omega arith) in
      let d : grid f (grid f n U) (2 * U) ≤ 0 =
      round_upto f (grid f n U) (2 * U) 0 pair zero_exact (pow_pos (low f + suc (emax f))) (omega arith) in
      omega arith)

  -- ---- rounding a signed number does not pass a float

  module _
      (B : ℕ) (r : Bool) (D : ℕ) (t : Bool) (b : ℕ) (exact : grid f b U ≡ b) (under : b < overflow f) (fine : 2 * D < overflow f)
      (bB : b ≤ B) (DB : 2 * D ≤ B) where
    got : grid f D U ≤ 2 * D
    got = rounds D fine

    at_most : D ≤ b → grid f D U ≤ b
    at_most h = round_upto f D U b unit_pos exact under (mul-le-mul_right U h)

    at_least : b ≤ D → b ≤ grid f D U
    at_least h = round_least f D U b unit_pos exact (mul-le-mul_right U h) (let z = got in omega arith)

    pub not_over : height B r D ≤ height B t b → height B r (grid f D U) ≤ height B t b
    not_over h = go r t h
      where
        go : (r t : Bool) → height B r D ≤ height B t b → height B r (grid f D U) ≤ height B t b
        go false false h = let z : grid f D U ≤ b = at_most (let y : B + D ≤ B + b = h in omega arith) in omega arith
        go false true h = let z : grid f D U ≤ b = at_most (let y : B + D ≤ B - b = h in omega arith) in let y : B + D ≤ B - b = h in omega arith
        go true false h = omega arith
        go true true h = let z : b ≤ grid f D U = at_least (let y : B - D ≤ B - b = h in omega arith) in omega arith

    pub not_under : height B t b ≤ height B r D → height B t b ≤ height B r (grid f D U)
    not_under h = go r t h
      where
        go : (r t : Bool) → height B t b ≤ height B r D → height B t b ≤ height B r (grid f D U)
        go false false h = let z : b ≤ grid f D U = at_least (let y : B + b ≤ B + D = h in omega arith) in omega arith
        go false true h = omega arith
        go true false h = let z : grid f D U ≤ b = at_most (let y : B + b ≤ B - D = h in omega arith) in let y : B + b ≤ B - D = h in omega arith
        go true true h = let z : grid f D U ≤ b = at_most (let y : B - b ≤ B - D = h in omega arith) in omega arith
