-- A flat list cut into lists, one behind the other. Assumes nothing.
use Rattle.std.specs.Prelude.{ℕ, List, [], ◌∷◌, take, drop}

module _ {A : Type 0} where
  -- the parts of a flat list: each takes as many elements as its length says
  abbrev pub parts : List ℕ → List A → List (List A)
  parts [] flat = []
  parts (n ∷ s) flat = take n flat ∷ parts s (drop n flat)
