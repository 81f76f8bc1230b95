-- How many numbers below a bound pass a test, the first number that passes one, and the place behind another in a ring. Assumes nothing.
use Rattle.std.specs.Prelude.{ℕ, zero, suc, ◌+◌, Bool, true, false, cond, ltb}
use Rattle.lists.specs.Lists.{bump}

-- the place behind i in a ring of n: the first one behind the last
unfoldable pub next_of : ℕ → ℕ → ℕ
next_of i n = cond (ltb (i + 1) n) (i + 1) 0

-- how many numbers below n pass
unfoldable pub count_below : (ℕ → Bool) → ℕ → ℕ
count_below p zero = 0
count_below p (suc n) = bump (p n) (count_below p n)

-- k where the test holds, else n
abbrev pub stop_at : Bool → ℕ → ℕ → ℕ
stop_at true k n = k
stop_at false k n = n

-- the first number from k on, of c numbers, at which p holds; k + c where there is none
unfoldable pub seek : (ℕ → Bool) → ℕ → ℕ → ℕ
seek p zero k = k
seek p (suc c) k = let n = seek p c (suc k) in stop_at (p k) k n
