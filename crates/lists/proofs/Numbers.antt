-- Laws of `count_below` and `seek`. Assumes nothing.
use mathlib.Core.Path.{◌≡◌, refl, sym, ap, ◌∙◌}
use mathlib.Core.Bool.{Bool, true, false}
use mathlib.Core.Logic.{⊎_elim}
use Prim.Native.Nat.{ℕ, zero, suc, ◌+◌, ◌≤◌, ◌<◌}
use native.Mathlib.Nat.{eq-or-lt_of_le}
use native.Mathlib.Numerals.{add-one}
use native.Mathlib.Omega.{arith}
use Rattle.lists.specs.Lists.{bump}
use Rattle.lists.specs.Numbers.{count_below, seek}
use Rattle.lists.proofs.Bools.{by_cases}

pub count_below_step : (p : ℕ → Bool) (n : ℕ) → count_below p (n + 1) ≡ bump (p n) (count_below p n)
unfolding count_below
count_below_step p n = rw add-one

-- where the test holds the search stops; where it does not, it goes on
pub seek_here : (p : ℕ → Bool) (c k : ℕ) → p k ≡ true → seek p (suc c) k ≡ k
unfolding seek
seek_here p c k e = rw e

pub seek_on : (p : ℕ → Bool) (c k : ℕ) → p k ≡ false → seek p (suc c) k ≡ seek p c (suc k)
unfolding seek
seek_on p c k e = rw e

pub seek_none : (p : ℕ → Bool) (k : ℕ) → seek p zero k ≡ k
unfolding seek
seek_none p k = refl

-- the search ends within its numbers
pub seek_low : (p : ℕ → Bool) (c k : ℕ) → k ≤ seek p c k
seek_low p zero k = rw (seek_none p k) (omega arith)
seek_low p (suc c) k =
    by_cases (p k)
    (λ e. rw (seek_here p c k e) (omega arith))
    (λ e. rw (seek_on p c k e) (let h : suc k ≤ seek p c (suc k) = seek_low p c (suc k) in omega arith))

pub seek_high : (p : ℕ → Bool) (c k : ℕ) → seek p c k ≤ k + c
seek_high p zero k = rw (seek_none p k) (omega arith)
seek_high p (suc c) k =
    by_cases (p k)
    (λ e. rw (seek_here p c k e) (omega arith))
    (λ e. rw (seek_on p c k e) (let h : seek p c (suc k) ≤ suc k + c = seek_high p c (suc k) in omega arith))

-- what it stops at before its end passes the test, and nothing before that does
pub seek_found : (p : ℕ → Bool) (c k : ℕ) → seek p c k < k + c → p (seek p c k) ≡ true
seek_found p zero k h = absurd (let z : seek p zero k ≡ k = seek_none p k in let l : seek p zero k < k + zero = h in omega arith)
seek_found p (suc c) k h =
    by_cases (p k)
    (λ e. rw (seek_here p c k e) e)
    (λ e.
    let z : seek p (suc c) k ≡ seek p c (suc k) = seek_on p c k e in
    let l : seek p (suc c) k < k + suc c = h in
    rw z (seek_found p c (suc k) (omega arith)))

pub seek_before : (p : ℕ → Bool) (c k j : ℕ) → k ≤ j → j < seek p c k → p j ≡ false
seek_before p zero k j a b = absurd (let z : seek p zero k ≡ k = seek_none p k in let l : j < seek p zero k = b in omega arith)
seek_before p (suc c) k j a b =
    by_cases (p k)
    (λ e. absurd (let z : seek p (suc c) k ≡ k = seek_here p c k e in let l : j < seek p (suc c) k = b in omega arith))
    (λ e.
    let z : seek p (suc c) k ≡ seek p c (suc k) = seek_on p c k e in
    let l : j < seek p (suc c) k = b in
    ⊎_elim (λ q. ap p (sym q) ∙ e) (λ m. seek_before p c (suc k) j m (omega arith)) (eq-or-lt_of_le a))
