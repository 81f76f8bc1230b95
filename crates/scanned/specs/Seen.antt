-- Keys in the order in which they appear: the first n, and each of them once. Assumes nothing.
use Rattle.std.specs.Prelude.{ℕ, List, map}
use Rattle.lists.specs.Lists.{span}
use Rattle.lists.specs.FirstUses.{first_uses}

abbrev pub upto : (ℕ → ℕ) → ℕ → List ℕ
upto key n = map key (span 0 n)

abbrev pub seen : (ℕ → ℕ) → ℕ → List ℕ
seen key n = first_uses (upto key n)
