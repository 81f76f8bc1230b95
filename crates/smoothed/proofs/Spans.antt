-- A test of the first n numbers: what it says at each of them, and how it comes from all of them. Assumes nothing.
use mathlib.Core.Path.{◌≡◌, refl}
use mathlib.Core.Bool.{Bool, true}
use Prim.Native.Nat.{ℕ, zero, suc, ◌+◌, ◌≤◌, ◌<◌}
use native.Mathlib.Omega.{arith}
use lib.Dec.{eqb}
use borrow.Author.Tests.{eqb-true, eqb-false}
use Rattle.lists.specs.Lists.{every, span}
use Rattle.lists.proofs.Bools.{and_both, and_left, and_right, by_cases}

module _ (p : ℕ → Bool) where
  from_at : (a n k : ℕ) → every p (span a n) ≡ true → a ≤ k → k < a + n → p k ≡ true
  from_at a zero k h l u = absurd (no u l)
    where
      no : k < a + 0 → a ≤ k → ⊥
      no u l = omega arith
  from_at a (suc n) k h l u =
      by_cases
      (eqb a k)
      (λ e. let q : a ≡ k = eqb-true a k e in rw q at (and_left (p a) (every p (span (suc a) n)) h))
      (λ e.
      let q : a ≡ k → ⊥ = eqb-false a k e in
      from_at (suc a) n k (and_right (p a) (every p (span (suc a) n)) h) (omega arith) (omega arith))

  from_all : (a n : ℕ) → ((k : ℕ) → a ≤ k → k < a + n → p k ≡ true) → every p (span a n) ≡ true
  from_all a zero f = refl
  from_all a (suc n) f =
      and_both (p a) (every p (span (suc a) n)) (f a (omega arith) (omega arith))
      (from_all (suc a) n (λ k l u. let l' : suc a ≤ k = l in let u' : k < suc a + n = u in f k (omega arith) (omega arith)))

  pub every_span_at : (n k : ℕ) → every p (span 0 n) ≡ true → k < n → p k ≡ true
  every_span_at n k h u = from_at 0 n k h (omega arith) (omega arith)

  pub every_span_all : (n : ℕ) → ((k : ℕ) → k < n → p k ≡ true) → every p (span 0 n) ≡ true
  every_span_all n f = from_all 0 n (λ k l u. let u' : k < 0 + n = u in f k (omega arith))
