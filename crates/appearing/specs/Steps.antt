-- The steps of the code, and no rules: the pass over the marks, and one of them. Assumes nothing.
use Rattle.std.specs.Prelude.{◌≡◌, cond, List, ℕ, ◌+◌, ◌≤◌, ◌<◌, eqb, length, get_or, set}
use Rattle.mesh.specs.Limits.{corner_limit}
use Rattle.matching.specs.Marks.{MarkedBy}
use Rattle.appearing.specs.Appearing.{Numbered}

-- marks: none is behind the one that has it
pub record Marks (marks : List ℕ) : Type 0 where
  pub few : length marks ≤ corner_limit
  pub upto : (x : ℕ) → x < length marks → get_or marks x 0 ≤ x

-- whatever the keys are that were marked, they are numbered
pub record NumberedBy (marks numbers : List ℕ) (found : ℕ) : Type 0 where
  pub numbered : (key : ℕ → ℕ) → MarkedBy key (length marks) marks → Numbered key (length marks) numbers found

-- one of them
pub record TakeRoom (x found : ℕ) (numbers : List ℕ) : Type 0 where
  pub inside : x < length numbers
  pub few : length numbers ≤ corner_limit
  pub counted : found ≤ x
  pub upto : get_or numbers x 0 ≤ x

pub record Taken (x found : ℕ) (before after : List ℕ) (r : ℕ) : Type 0 where
  pub is : after ≡ set before x (cond (eqb (get_or before x 0) x) found (get_or before (get_or before x 0) 0))
  pub count : r ≡ cond (eqb (get_or before x 0) x) (found + 1) found
