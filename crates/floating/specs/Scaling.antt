-- Positions are first scaled on each axis, as document 01, 'Merging', has it: one f64 operation at a time, in the order written.
-- Assumes nothing.
use Rattle.std.specs.Prelude.{◌≡◌, cond, List, [], ◌∷◌, map, pos, Float}
use Rattle.std.specs.Float.{nan, binary64}
use Rattle.std.specs.Float.Ieee.{add, sub, mul, div, lt}
use Rattle.lists.specs.Lists.{each}
use Rattle.floating.specs.Limits.{power}
use Rattle.floating.specs.Points.{point, coordinates, points_of}
use Rattle.floating.specs.declared.Point.{Point}
use Rattle.floating.specs.declared.Bounds.{Bounds}

-- ---- one axis

-- the smaller and the larger of two numbers
unfoldable pub lesser : Float → Float → Float
lesser a b = cond (lt b a) b a

unfoldable pub greater : Float → Float → Float
greater a b = cond (lt a b) b a

-- the centre is least + (greatest - least)/2
unfoldable pub centre_of : Float → Float → Float
centre_of l g = add binary64 l (div binary64 (sub binary64 g l) (power (pos 1)))

-- the divisor is the larger of greatest - least and 1
unfoldable pub divisor_of : Float → Float → Float
unfolding greater
divisor_of l g = greater (sub binary64 g l) (power (pos 0))

-- the scaled value is 2·((p - centre)/divisor)
unfoldable pub scaled_of : Float → Float → Float → Float
scaled_of p c d = mul binary64 (power (pos 1)) (div binary64 (sub binary64 p c) d)

-- ---- each axis

-- a rule of one axis, at each of the three
abbrev pub axes1 : (Float → Float) → Point → Point
axes1 f p = point (f p.x) (f p.y) (f p.z)

abbrev pub axes2 : (Float → Float → Float) → Point → Point → Point
axes2 f p q = point (f p.x q.x) (f p.y q.y) (f p.z q.z)

-- r is what a step that answers by `post` makes of p and q on each axis: whatever rule the step keeps to, r is by it
abbrev pub OnAxes : (Float → Float → Float → Type 0) → Point → Point → Point → Type 0
OnAxes post p q r = (f : Float → Float → Float) → ((a b c : Float) → post a b c → c ≡ f a b) → r ≡ axes2 f p q

abbrev pub axes3 : (Float → Float → Float → Float) → Point → Point → Point → Point
axes3 f p q r = point (f p.x q.x r.x) (f p.y q.y r.y) (f p.z q.z r.z)

abbrev pub bounds : Point → Point → Bounds
bounds l g = record { least = l; greatest = g }

-- the box of a point, of a box and one point more, and of a box and more points: least and greatest on each axis
abbrev pub around : Point → Bounds
around p = bounds p p

abbrev pub box_with : Bounds → Point → Bounds
box_with b p = bounds (axes2 lesser b.least p) (axes2 greater b.greatest p)

abbrev pub box_from : Bounds → List Point → Bounds
box_from b [] = b
box_from b (p ∷ ps) = box_from (box_with b p) ps

abbrev pub centre : Bounds → Point
centre b = axes2 centre_of b.least b.greatest

abbrev pub divisor : Bounds → Point
divisor b = axes2 divisor_of b.least b.greatest

abbrev pub scaled_in : Bounds → Point → Point
scaled_in b p = axes3 scaled_of p (centre b) (divisor b)

-- the box of all points; of none it is never asked
unfoldable pub box_of : List Point → Bounds
box_of [] = around (point nan nan nan)
box_of (p ∷ ps) = box_from (around p) ps

-- all points, scaled in their box; with no positions nothing is scaled
unfoldable pub scaled_list : List Float → List Float
unfolding box_of
scaled_list s = each coordinates (map (scaled_in (box_of (points_of s))) (points_of s))
