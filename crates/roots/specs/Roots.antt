-- Whole square roots: the greatest whole number whose square is at most a given one. Assumes nothing.
use Rattle.std.specs.Prelude.{cond, ℕ, zero, suc, ◌+◌, ◌*◌, ◌≤◌, ◌<◌, leb}

-- r's square is at most x, and that of the number behind r is not
pub record Root (x r : ℕ) : Type 0 where
  pub at_most : r * r ≤ x
  pub greatest : x < (r + 1) * (r + 1)

-- no bound of a root is above 2^22, nor its square above 2^44
abbrev pub root_limit : ℕ
root_limit = 4194304

abbrev pub square_limit : ℕ
square_limit = 17592186044416

-- x's root is not below low, and it is below high, which stands behind low
pub record Within (x low high : ℕ) : Type 0 where
  pub ordered : low < high
  pub few : high ≤ root_limit
  pub above : low * low ≤ x
  pub below : x < high * high

-- that number, counted up to: one more wherever the next square is reached
abbrev pub grown : ℕ → ℕ → ℕ
grown n r = cond (leb ((r + 1) * (r + 1)) n) (r + 1) r

unfoldable pub root_of : ℕ → ℕ
root_of zero = 0
root_of (suc n) = grown (suc n) (root_of n)
