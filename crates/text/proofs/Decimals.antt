-- The decimal digits of a number: the last one stands behind those of its tenth. So they spell the number, the first is no zero
-- but of 0 itself, and a number below 10^k has at most k of them. Assumes nothing.
use mathlib.Core.Path.{◌≡◌, refl, sym, ap, ◌∙◌}
use mathlib.Core.List.{List, [], ◌∷◌, ◌++◌}
use Prim.Native.Nat.{ℕ, zero, suc, ◌+◌, ◌*◌, ◌-◌, ◌/◌, ◌%◌, ◌^◌, ◌≤◌, ◌<◌}
use native.Mathlib.Nat.{pow-suc}
use native.Mathlib.Omega.{arith}
use lib.ListN.{length, get_or, length-append, get_or-append}
use lib.Dec.{ltb}
use borrow.Author.Tests.{lt-ltb, le-ltb, ltb-true, ltb-false}
use Rattle.lists.proofs.Bools.{by_cases}
use Rattle.text.specs.Text.{digit_byte, decimal_in, decimal}

-- a number below ten is one digit; of any other the last digit stands behind those of its tenth
in_small : (f n : ℕ) → n < 10 → decimal_in f n ≡ digit_byte n ∷ []
unfolding decimal_in
in_small zero n h = refl
in_small (suc f) n h = rw (decimal_in, lt-ltb n 10 h)

in_more : (f n : ℕ) → 10 ≤ n → decimal_in (suc f) n ≡ decimal_in f (n / 10) ++ digit_byte (n % 10) ∷ []
unfolding decimal_in
in_more f n h = rw (decimal_in, le-ltb n 10 h)

-- any bound that is enough gives the same digits
in_enough : (f g n : ℕ) → n ≤ f → n ≤ g → decimal_in f n ≡ decimal_in g n
in_enough zero g n h k = in_small zero n (omega arith) ∙ sym (in_small g n (omega arith))
in_enough (suc f) zero n h k = in_small (suc f) n (omega arith) ∙ sym (in_small zero n (omega arith))
in_enough (suc f) (suc g) n h k =
    by_cases (ltb n 10)
    (λ a. let s : n < 10 = ltb-true n 10 a in in_small (suc f) n s ∙ sym (in_small (suc g) n s))
    (λ a. let s : 10 ≤ n = ltb-false n 10 a in
    in_more f n s
    ∙ ap (λ (l : List ℕ). l ++ digit_byte (n % 10) ∷ []) (in_enough f g (n / 10) (omega arith) (omega arith))
    ∙ sym (in_more g n s))

pub decimal_small : (n : ℕ) → n < 10 → decimal n ≡ digit_byte n ∷ []
unfolding decimal
decimal_small n h = in_small n n h

pub decimal_more : (n : ℕ) → 10 ≤ n → decimal n ≡ decimal (n / 10) ++ digit_byte (n % 10) ∷ []
unfolding decimal
decimal_more zero h = absurd (omega arith)
decimal_more (suc n) h =
    in_more n (suc n) h
    ∙ ap (λ (l : List ℕ). l ++ digit_byte (suc n % 10) ∷ []) (in_enough n (suc n / 10) (suc n / 10) (omega arith) (omega arith))

pub length_more : (n : ℕ) → 10 ≤ n → length (decimal n) ≡ length (decimal (n / 10)) + 1
length_more n h = ap length (decimal_more n h) ∙ length-append (decimal (n / 10)) (digit_byte (n % 10) ∷ [])

-- what holds of the numbers below ten, and of any other if it holds of its tenth, holds of all
by_digits : (P : ℕ → Type 0) → ((n : ℕ) → n < 10 → P n) → ((n : ℕ) → 10 ≤ n → P (n / 10) → P n) → (n : ℕ) → P n
by_digits P small more n = upto n n (omega arith)
  where
    upto : (f n : ℕ) → n ≤ f → P n
    upto zero n h = small n (omega arith)
    upto (suc f) n h = by_cases (ltb n 10) (λ a. small n (ltb-true n 10 a)) (λ a. let s : 10 ≤ n = ltb-false n 10 a in more n s (upto f (n / 10) (omega arith)))

-- what digits spell, behind a number that is read already
abbrev pub spelt : ℕ → List ℕ → ℕ
spelt v [] = v
spelt v (b ∷ l) = spelt (10 * v + (b - 48)) l

spelt_append : (v : ℕ) (a b : List ℕ) → spelt v (a ++ b) ≡ spelt (spelt v a) b
spelt_append v [] b = refl
spelt_append v (x ∷ a) b = spelt_append (10 * v + (x - 48)) a b

-- the digits of n spell n
pub spells : (n : ℕ) → spelt 0 (decimal n) ≡ n
spells n =
    by_digits (λ (n : ℕ). spelt 0 (decimal n) ≡ n)
    (λ n h. ap (spelt 0) (decimal_small n h) ∙ omega arith)
    (λ n h i. ap (spelt 0) (decimal_more n h) ∙ spelt_append 0 (decimal (n / 10)) (digit_byte (n % 10) ∷ []) ∙ ap (λ (v : ℕ). 10 * v + (digit_byte (n % 10) - 48)) i ∙ omega arith)
    n

-- there is a first digit, and it is a zero only where the number is 0
pub some_digit : (n : ℕ) → 1 ≤ length (decimal n)
some_digit n =
    by_digits (λ (n : ℕ). 1 ≤ length (decimal n))
    (λ n h. omega (arith, ap length (decimal_small n h)))
    (λ n h i. omega (arith, length_more n h))
    n

pub no_leading_zero : (n : ℕ) → get_or (decimal n) 0 0 ≡ 48 → n ≡ 0
no_leading_zero n =
    by_digits (λ (n : ℕ). get_or (decimal n) 0 0 ≡ 48 → n ≡ 0)
    (λ n h e. let d : get_or (decimal n) 0 0 ≡ 48 + n = ap (λ (l : List ℕ). get_or l 0 0) (decimal_small n h) in omega arith)
    (λ n h i e.
    let d : get_or (decimal n) 0 0 ≡ get_or (decimal (n / 10)) 0 0 =
    ap (λ (l : List ℕ). get_or l 0 0) (decimal_more n h) ∙ get_or-append (decimal (n / 10)) (digit_byte (n % 10) ∷ []) 0 0 (some_digit (n / 10)) in
    let z : n / 10 ≡ 0 = i (sym d ∙ e) in
    absurd (omega arith))
    n

-- a number below 10^k, k at least 1, has at most k digits
pub few_digits : (k n : ℕ) → n < 10 ^ suc k → length (decimal n) ≤ suc k
few_digits zero n h = omega (arith, ap length (decimal_small n h))
few_digits (suc k) n h =
    by_cases (ltb n 10)
    (λ a. omega (arith, ap length (decimal_small n (ltb-true n 10 a))))
    (λ a. let s : 10 ≤ n = ltb-false n 10 a in
    let t : n < 10 ^ suc k * 10 = rw pow-suc at h in
    omega (arith, length_more n s, few_digits k (n / 10) (omega arith)))
