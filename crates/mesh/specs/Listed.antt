-- Lists of lists in lent room: `Vec` of `Vec` becomes a flat list of numbers and a list of lengths (document 01, 'What must change
-- shape'). Assumes nothing.
use Rattle.std.specs.Prelude.{ℕ, List}

-- the two lists at one moment: the numbers of all one behind the other, and how many each has
pub record Listed : Type 0 where
  pub flat : List ℕ
  pub lengths : List ℕ

abbrev pub listed_of : List ℕ → List ℕ → Listed
listed_of f l = record { flat = f; lengths = l }
