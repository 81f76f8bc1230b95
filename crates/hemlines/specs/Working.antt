-- What the code rests on, and no rules of document 02. Assumes nothing.
use Rattle.std.specs.Prelude.{◌≡◌, List, ℕ, length}
use Rattle.lists.specs.Putting.{Room}
use Rattle.hemlines.specs.HemLines.{hem_lines}

-- three lists of one length, and room for the lines
pub record Beside (panels edges lengths out : List ℕ) (at : ℕ) : Type 0 where
  pub edges_long : length edges ≡ length panels
  pub lengths_long : length lengths ≡ length panels
  pub room : Room (hem_lines panels edges lengths) out at
