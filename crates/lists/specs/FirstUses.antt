-- Numbers in the order in which they come first, and where a number first stands. Assumes nothing.
use Rattle.std.specs.Prelude.{ℕ, suc, cond, List, [], ◌∷◌, eqb}
use Rattle.lists.specs.Lists.{others}

-- the numbers of a list, each once, in the order of their first use
unfoldable pub first_uses : List ℕ → List ℕ
first_uses [] = []
first_uses (i ∷ l) = i ∷ others i (first_uses l)

-- where i first stands in a list, counted from 0; the length where it does not stand there
unfoldable pub place : List ℕ → ℕ → ℕ
place [] i = 0
place (u ∷ us) i = cond (eqb u i) 0 (suc (place us i))
