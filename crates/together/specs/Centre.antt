-- The centre of a group and its representative, as document 01, 'Merging', has them. A point is the w numbers at its place in the
-- flat list s; a group is a list of points in walk order. Assumes nothing.
use Rattle.std.specs.Prelude.{Bool, true, false, cond, List, [], ◌∷◌, map, ℕ, pos, length, replicate, Float}
use Rattle.std.specs.Float.{binary64}
use Rattle.std.specs.Float.Ieee.{add, div, lt, of_int}
use Rattle.lists.specs.Lists.{has}
use Rattle.floating.specs.Points.{row}
use Rattle.floating.specs.Near.{nought, squared}

-- the sum of two points, axis by axis
unfoldable pub added : List Float → List Float → List Float
added [] qs = []
added (p ∷ ps) [] = []
added (p ∷ ps) (q ∷ qs) = add binary64 p q ∷ added ps qs

-- the sum of a group's points in walk order, from acc
unfoldable pub sum_from : ℕ → List Float → List Float → List ℕ → List Float
unfolding added
sum_from w s acc [] = acc
sum_from w s acc (i ∷ g) = sum_from w s (added acc (row w s i)) g

-- a number of points, as an f64
abbrev pub counted : List ℕ → Float
counted g = of_int binary64 (pos (length g))

-- the centre is the sum from 0.0 in walk order divided by the count
unfoldable pub centre_of : ℕ → List Float → List ℕ → List Float
unfolding sum_from
centre_of w s g = map (λ x. div binary64 x (counted g)) (sum_from w s (replicate w nought) g)

-- a point of a group, and its squared distance to the centre
pub record Best : Type 0 where
  pub distance : Float
  pub index : ℕ

abbrev pub best : Float → ℕ → Best
best d i = record { distance = d; index = i }

-- a point takes the place of one before it where its distance is smaller
abbrev pub closer : Float → ℕ → Best → Best
closer d i b = cond (lt d b.distance) (best d i) b

unfoldable pub closest : ℕ → List Float → List Float → Best → List ℕ → Best
unfolding squared
closest w s c b [] = b
closest w s c b (i ∷ g) = closest w s c (closer (squared (row w s i) c) i b) g

-- the representative is the first in walk order with the smallest squared distance to the centre
unfoldable pub representative : ℕ → List Float → List ℕ → ℕ
unfolding closest centre_of
representative w s [] = 0
representative w s (i ∷ g) = let c = centre_of w s (i ∷ g) in (closest w s c (best (squared (row w s i) c) i) g).index

abbrev pub pick : Bool → ℕ → ℕ → ℕ
pick true a b = a
pick false a b = b

-- a point becomes the representative of the group that has it
unfoldable pub sent_to : ℕ → List Float → List (List ℕ) → ℕ → ℕ
unfolding representative
sent_to w s [] i = i
sent_to w s (g ∷ gs) i = pick (has i g) (representative w s g) (sent_to w s gs i)
