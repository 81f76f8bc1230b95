-- How many pairs of a list pass, each counted from the one that stands first. Assumes nothing.
use Rattle.std.specs.Prelude.{Bool, List, [], ◌∷◌, ℕ, ◌+◌}
use Rattle.lists.specs.Lists.{count}

unfoldable pub pairs_in : (ℕ → ℕ → Bool) → List ℕ → ℕ
pairs_in r [] = 0
pairs_in r (x ∷ l) = count (r x) l + pairs_in r l
