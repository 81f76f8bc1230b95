-- Near: compared, and the squared distance is strictly below tolerance·tolerance. One rule for every width. Assumes nothing.
use Rattle.std.specs.Prelude.{Bool, false, ◌&&◌, List, [], ◌∷◌, pos, Float}
use Rattle.std.specs.Float.{fin, binary64}
use Rattle.std.specs.Float.Ieee.{add, sub, mul, lt}
use Rattle.floating.specs.Cells.{compared}

-- 0.0
abbrev pub nought : Float
nought = fin false 0 (pos 0)

-- (p - q) squared
abbrev pub square : Float → Float → Float
square p q = mul binary64 (sub binary64 p q) (sub binary64 p q)

-- squares are summed left to right
unfoldable pub sum_from : Float → List Float → List Float → Float
sum_from a [] qs = a
sum_from a (p ∷ ps) [] = a
sum_from a (p ∷ ps) (q ∷ qs) = sum_from (add binary64 a (square p q)) ps qs

unfoldable pub squared : List Float → List Float → Float
unfolding sum_from
squared [] qs = nought
squared (p ∷ ps) [] = nought
squared (p ∷ ps) (q ∷ qs) = sum_from (square p q) ps qs

-- they are near when compared and their squared distance is strictly below tolerance·tolerance
abbrev pub below : Float → List Float → List Float → Bool
below t ps qs = lt (squared ps qs) (mul binary64 t t)

unfoldable pub near : Float → List Float → List Float → Bool
unfolding compared squared
near t ps qs = compared t ps qs && below t ps qs
