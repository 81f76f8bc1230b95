-- The steps of the code, and no rules of document 01: joins as a flat list, two faces each, in the order they are recorded.
-- Assumes nothing.
use Rattle.std.specs.Prelude.{List, [], ◌∷◌, ℕ, ◌*◌}
use Rattle.lists.specs.Lists.{each}
use Rattle.mesh.specs.Limits.{corner_limit}
use Rattle.connected.specs.Search.{Join}

-- the most numbers that joins have: at most one join for each corner, and two faces each
abbrev pub join_numbers : ℕ
join_numbers = corner_limit * 2

-- the joins, flat, and back
abbrev pub flat_join : Join → List ℕ
flat_join j = j.0 ∷ j.1 ∷ []

unfoldable pub flat_joins : List Join → List ℕ
flat_joins js = each flat_join js

unfoldable pub joins_of : List ℕ → List Join
joins_of [] = []
joins_of (i ∷ []) = []
joins_of (i ∷ j ∷ l) = (i, j) ∷ joins_of l
