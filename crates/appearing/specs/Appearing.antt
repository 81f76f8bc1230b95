-- Keys numbered by first appearance: what the numbers are. Assumes nothing.
use Rattle.std.specs.Prelude.{◌≡◌, List, ℕ, ◌<◌, length, get_or}
use Rattle.lists.specs.FirstUses.{place}
use Rattle.scanned.specs.Seen.{seen}

-- each of u has the number of its key, and there are so many numbers as `found`
pub record Numbered (key : ℕ → ℕ) (u : ℕ) (numbers : List ℕ) (found : ℕ) : Type 0 where
  pub long : length numbers ≡ u
  pub count : found ≡ length (seen key u)
  pub number : (y : ℕ) → y < u → get_or numbers y 0 ≡ place (seen key u) (key y)
