-- What two comparisons with plus and minus a power of two say of a magnitude: rows 7 and 8 of the table, as the code tests them.
-- Assumes nothing.
use mathlib.Core.Path.{◌≡◌, refl, sym, ap, ◌∙◌}
use mathlib.Core.Bool.{Bool, true, false, not, ◌&&◌, ◌||◌, and-true}
use Prim.Native.Nat.{ℕ, ◌+◌, ◌*◌, ◌^◌, ◌<◌}
use native.Mathlib.Nat.{mul-one, one-mul, mul-pos}
use native.Mathlib.Omega.{arith}
use lib.IntN.{ℤ, pos}
use lib.Dec.{leb, ltb, eqb}
use lib.Pow.{pow_pos}
use lib.Ieee.{Float, nan, inf, fin, up, down, binary64, of_bits, neg, lt, eq, le}
use lib.Ieee.Fits.{down_pos}
use borrow.Author.Tests.{lt-ltb, le-leb, lt-leb, eq-eqb, ne_eqb, ltb-true, ltb-false}
use Rattle.lists.proofs.Bools.{by_cases}
use Rattle.lists.proofs.Others.{eqb_flip}
use Rattle.floating.proofs.Literals.{one_is, least_is, most_is, edge_is}
use Rattle.floating.specs.Limits.{power, unfit, boundless, far}

-- ---- tests and numbers

twice : (b : Bool) → b ≡ not (not b)
twice true = refl
twice false = refl

not_lt : (a b : ℕ) → leb b a ≡ not (ltb a b)
not_lt a b =
    by_cases (ltb a b)
    (λ h. rw h (lt-leb b a (ltb-true a b h)))
    (λ h. rw h (le-leb b a (ltb-false a b h)))

lt_or_eq : (a b : ℕ) (c : Bool) → c ≡ eqb a b → (ltb a b || (c && true)) ≡ not (ltb b a)
lt_or_eq a b c e = go (ltb a b) refl (ltb b a) refl
  where
    go : (p : Bool) → ltb a b ≡ p → (q : Bool) → ltb b a ≡ q → (p || (c && true)) ≡ not q
    go true h true k = absurd (let x = ltb-true a b h in let y = ltb-true b a k in omega arith)
    go true h false k = refl
    go false h true k = let y = ltb-true b a k in ap (λ (u : Bool). u && true) (e ∙ ne_eqb a b (λ i. omega arith))
    go false h false k = let x = ltb-false a b h in let y = ltb-false b a k in ap (λ (u : Bool). u && true) (e ∙ eq-eqb a b (omega arith))

-- ---- a magnitude and 2 ^ k

module _ (k m : ℕ) (e : ℤ) where
  abbrev small : ℕ
  small = m * up e

  abbrev large : ℕ
  large = 2 ^ k * down e

  small_is : m * up e * 1 ≡ small
  small_is = mul-one (m * up e)

  large_is : 1 * 2 ^ k * down e ≡ large
  large_is = ap (λ (n : ℕ). n * down e) (one-mul (2 ^ k))

  some : 0 < large
  some = mul-pos (pow_pos k) (down_pos e)

  over : (n : ℕ) → ltb 0 (1 * 2 ^ k * down e + n) ≡ true
  over n = rw large_is (lt-ltb 0 (large + n) (omega (arith, some)))

  over' : (n : ℕ) → ltb 0 (n + 1 * 2 ^ k * down e) ≡ true
  over' n = rw large_is (lt-ltb 0 (n + large) (omega (arith, some)))

  under : ltb (m * up e * 1) (1 * 2 ^ k * down e) ≡ ltb small large
  under = rw (small_is, large_is)

  upto : ltb (m * up e * 1) (1 * 2 ^ k * down e) || (eqb (m * up e * 1) (1 * 2 ^ k * down e) && true) ≡ not (ltb large small)
  upto = rw (small_is, large_is) (lt_or_eq small large (eqb small large) refl)

  upto' : ltb (m * up e * 1) (1 * 2 ^ k * down e) || (eqb (1 * 2 ^ k * down e) (m * up e * 1) && true) ≡ not (ltb large small)
  upto' = rw (small_is, large_is) (lt_or_eq small large (eqb large small) (eqb_flip large small))

-- strictly between the two
pub inside : (k : ℕ) (s : Bool) (m : ℕ) (e : ℤ) → (lt (neg (power (pos k))) (fin s m e) && lt (fin s m e) (power (pos k))) ≡ ltb (m * up e) (2 ^ k * down e)
unfolding lt neg
inside k false m e = rw (over k m e (m * up e * 1)) (under k m e)
inside k true m e = rw (over' k m e (m * up e * 1)) (and-true _ ∙ under k m e)

-- between the two, or at one of them
pub upon : (k : ℕ) (s : Bool) (m : ℕ) (e : ℤ) → (le (neg (power (pos k))) (fin s m e) && le (fin s m e) (power (pos k))) ≡ not (ltb (2 ^ k * down e) (m * up e))
unfolding le lt eq neg
upon k false m e = rw (over k m e (m * up e * 1)) (upto k m e)
upon k true m e = rw (over' k m e (m * up e * 1)) (and-true _ ∙ upto' k m e)

-- ---- the table

pub bounded : (x : Float) → (le (neg (power (pos 60))) x && le x (power (pos 60))) ≡ not (boundless x)
unfolding le lt eq neg boundless
bounded nan = refl
bounded (inf true) = refl
bounded (inf false) = refl
bounded (fin s m e) = upon 60 s m e

pub short : (x : Float) → (lt (neg (power (pos 53))) x && lt x (power (pos 53))) ≡ not (far x)
unfolding lt neg far
short nan = refl
short (inf true) = refl
short (inf false) = refl
short (fin s m e) = inside 53 s m e ∙ twice _ ∙ sym (ap not (not_lt (m * up e) (2 ^ 53 * down e)))

-- ---- as the code has the bounds: two tests that both hold leave nothing to refuse, and where one fails there is something

pub record Tests (a b z : Bool) : Type 0 where
  pub are : (a && b) ≡ not z

pub fit_tests : (t : Float) → Tests (le (of_bits binary64 0x3e10_0000_0000_0000) t) (le t (of_bits binary64 0x3ff0_0000_0000_0000)) (unfit t)
unfolding unfit
fit_tests t = record { are = rw (least_is, one_is) (twice _) }

pub bounded_tests : (x : Float) → Tests (le (neg (of_bits binary64 0x43b0_0000_0000_0000)) x) (le x (of_bits binary64 0x43b0_0000_0000_0000)) (boundless x)
bounded_tests x = record { are = rw most_is (bounded x) }

pub short_tests : (x : Float) → Tests (lt (neg (of_bits binary64 0x4340_0000_0000_0000)) x) (lt x (of_bits binary64 0x4340_0000_0000_0000)) (far x)
short_tests x = record { are = rw edge_is (short x) }

module _ {a b z r : Bool} (e : Tests a b z) where
  refused : r ≡ (a && b) → not r ≡ z
  refused h = ap not (h ∙ e.are) ∙ sym (twice z)

  -- the second test is asked where the first holds
  pub first_holds : a ≡ true → r ≡ b → not r ≡ z
  first_holds p h = refused (rw p h)

  pub first_fails : a ≡ false → r ≡ a → not r ≡ z
  first_fails p h = refused (rw p (h ∙ p))
