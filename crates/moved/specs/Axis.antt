-- Where a position moves to and where a new one stands, on one axis: each formula of smoothing as a function of the numbers that it
-- reads. Assumes nothing.
use Rattle.std.specs.Prelude.{Float}
use Rattle.std.specs.Float.{binary64}
use Rattle.std.specs.Float.Ieee.{add, sub, mul}
use Rattle.floating.specs.Points.{point}
use Rattle.floating.specs.declared.Point.{Point}
use Rattle.smoothed.specs.Positions.{halved, eighth}

-- p on the boundary, between x and y
unfoldable pub bent : Float → Float → Float → Float
bent p x y = add binary64 p (eighth (add binary64 (sub binary64 x p) (sub binary64 y p)))

-- p inside, with the sum of how far its neighbours lie from it, and their weight
unfoldable pub drawn : Float → Float → Float → Float
drawn weight p pull = add binary64 p (mul binary64 pull weight)

-- half way from p to q
unfoldable pub halfway : Float → Float → Float
halfway p q = add binary64 p (halved (sub binary64 q p))

-- on the edge from p to q, a share of the way, with the wings f and s
unfoldable pub winged : Float → Float → Float → Float → Float → Float
winged share p q f s =
    add binary64
    (add binary64 (add binary64 p (mul binary64 (sub binary64 q p) share)) (eighth (sub binary64 f p)))
    (eighth (sub binary64 s q))

-- a rule of four numbers, at each axis
abbrev pub axes4 : (Float → Float → Float → Float → Float) → Point → Point → Point → Point → Point
axes4 f p q r s = point (f p.x q.x r.x s.x) (f p.y q.y r.y s.y) (f p.z q.z r.z s.z)
