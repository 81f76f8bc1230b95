-- The first of those that have one key, for each of u. Assumes nothing.
use Rattle.std.specs.Prelude.{◌≡◌, List, ℕ, ◌≤◌, ◌<◌, length, get_or}

-- f is the first that has the key of x
pub record FirstBy (key : ℕ → ℕ) (x f : ℕ) : Type 0 where
  pub upto : f ≤ x
  pub same : key x ≡ key f
  pub none : (y : ℕ) → y < f → key x ≡ key y → ⊥

-- each of u is marked with the first that has its key
pub record MarkedBy (key : ℕ → ℕ) (u : ℕ) (firsts : List ℕ) : Type 0 where
  pub long : length firsts ≡ u
  pub first : (x : ℕ) → x < u → FirstBy key x (get_or firsts x 0)

-- f is the first that has both marks of x
pub record FirstPair (low high : List ℕ) (x f : ℕ) : Type 0 where
  pub upto : f ≤ x
  pub same_low : get_or low x 0 ≡ get_or low f 0
  pub same_high : get_or high x 0 ≡ get_or high f 0
  pub none : (y : ℕ) → y < f → get_or low x 0 ≡ get_or low y 0 → get_or high x 0 ≡ get_or high y 0 → ⊥

pub record FirstPairs (low high : List ℕ) (u : ℕ) (firsts : List ℕ) : Type 0 where
  pub long : length firsts ≡ u
  pub first : (x : ℕ) → x < u → FirstPair low high x (get_or firsts x 0)
