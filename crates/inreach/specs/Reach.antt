-- What is passed over, and what is a run. Assumes nothing.
use Rattle.std.specs.Prelude.{◌≡◌, Bool, true, false, List, ℕ, ◌≤◌, ◌<◌, length, get_or}
use Rattle.nearby.specs.Engine.{beside_at}

-- from the place q to below r no point passes; where r is q, the one at q does
pub record Skipped (b : ℕ → Bool) (order : List ℕ) (n q r : ℕ) : Type 0 where
  pub onward : q ≤ r
  pub inside : r ≤ n
  pub none : (k : ℕ) → q ≤ k → k < r → b (get_or order k 0) ≡ false
  pub here : r ≡ q → b (get_or order q 0) ≡ true

-- the places from `fore` to below `rear` have points that are compared with i
pub record Run (w n : ℕ) (cells order : List ℕ) (i fore rear : ℕ) : Type 0 where
  pub long : length order ≡ n
  pub rise : fore ≤ rear
  pub inside : rear ≤ n
  pub below : (k : ℕ) → k < n → get_or order k 0 < n
  pub beside : (k : ℕ) → fore ≤ k → k < rear → beside_at w cells i (get_or order k 0) ≡ true
