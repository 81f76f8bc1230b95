-- Counting the points before j that are compared with it, and the pairs. Assumes nothing.
use mathlib.Core.Path.{◌≡◌, refl, sym}
use mathlib.Core.Bool.{Bool, true, false}
use Prim.Native.Nat.{ℕ, zero, suc, ◌+◌, ◌*◌, ◌≤◌, ◌<◌}
use native.Mathlib.Omega.{arith}
use native.Mathlib.Numerals.{add-one}
use Rattle.lists.specs.Lists.{bump}
use Rattle.lists.specs.Numbers.{count_below}
use Rattle.mesh.specs.Limits.{entry_limit}
use Rattle.lists.proofs.Numbers.{count_below_step}
use Rattle.nearby.specs.Pairs.{pairs}

pub bump_le : (b : Bool) (n : ℕ) → bump b n ≤ suc n
bump_le true n = omega arith
bump_le false n = omega arith

count_none : (p : ℕ → Bool) → count_below p 0 ≡ 0
unfolding count_below
count_none p = refl

pub count_le : (p : ℕ → Bool) (n : ℕ) → count_below p n ≤ n
unfolding count_below
count_le p zero = omega arith
count_le p (suc n) = let a = count_le p n in let b = bump_le (p n) (count_below p n) in omega arith

-- of the numbers below i, `found` pass
pub record Counted (p : ℕ → Bool) (j found i : ℕ) : Type 0 where
  pub within : i ≤ j
  pub is : found ≡ count_below p i
  pub few : found ≤ i

module _ (p : ℕ → Bool) (j : ℕ) where
  pub counted_none : Counted p j 0 0
  counted_none = record { within = omega arith; is = sym (count_none p); few = omega arith }

  pub counted_one : (found i : ℕ) → i < j → p i ≡ true → Counted p j found i → Counted p j (found + 1) (i + 1)
  counted_one found i h e c = record {
    within = omega arith;
    is = rw (count_below_step p i, e) (let k : found ≡ count_below p i = c.is in omega arith);
    few = omega (arith, c.few);
  }

  pub counted_not : (found i : ℕ) → i < j → p i ≡ false → Counted p j found i → Counted p j found (i + 1)
  counted_not found i h e c = record {
    within = omega arith;
    is = rw (count_below_step p i, e) c.is;
    few = omega (arith, c.few);
  }

-- ---- pairs of numbers below n

pub record Paired (r : ℕ → ℕ → Bool) (n found j : ℕ) : Type 0 where
  pub within : j ≤ n
  pub is : found ≡ pairs r j
  pub few : found ≤ entry_limit * j

module _ (r : ℕ → ℕ → Bool) (n : ℕ) where
  pub paired_none : Paired r n 0 0
  unfolding pairs
  paired_none = record { within = omega arith; is = refl; few = omega arith }

  pub paired_more : (found j c : ℕ) → n ≤ entry_limit → j < n → c ≡ count_below (λ i. r i j) j → Paired r n found j → Paired r n (found + c) (j + 1)
  unfolding pairs
  paired_more found j c s h e g =
      let l : count_below (λ i. r i j) j ≤ j = count_le (λ i. r i j) j in
      record {
        within = omega arith;
        is = rw add-one (let k : found ≡ pairs r j = g.is in omega arith);
        few = omega (arith, g.few);
      }
