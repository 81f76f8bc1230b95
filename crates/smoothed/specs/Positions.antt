-- Where positions move to, and where the new ones stand, as the Rust's `calc_new_position` and `edge_positions` have it: one f64
-- operation at a time, in the order written there. Each of these works axis by axis. The cosines of pi/n and of 2·pi/n come in two
-- lists, n from 1. Vector sums from 0.0 and `midpoint` are cgmath's, which is not in docs/src. Assumes nothing.
use Rattle.std.specs.Prelude.{false, cond, List, [], ◌∷◌, ◌++◌, map, ℕ, ◌+◌, ◌*◌, ◌-◌, length, get_or, pos, negsuc, Float}
use Rattle.std.specs.Float.{nan, fin, binary64}
use Rattle.std.specs.Float.Ieee.{add, sub, mul, div, of_int}
use Rattle.lists.specs.Lists.{each, span}
use Rattle.mesh.specs.Limits.{point_width}
use Rattle.mesh.specs.Mesh.{Ring}
use Rattle.verdicts.specs.Edges.{Edge}
use Rattle.floating.specs.Limits.{power}
use Rattle.floating.specs.Near.{nought}
use Rattle.smoothed.specs.Smoothed.{edges_by_use}
use Rattle.smoothed.specs.Around.{Condition, Corner, Boundary, Inner, condition, neighbours, single, first_wing, second_wing}

-- 3/8, 5/8 and 1/2
abbrev pub three_eighths : Float
three_eighths = fin false 3 (negsuc 2)

abbrev pub five_eighths : Float
five_eighths = fin false 5 (negsuc 2)

abbrev pub half : Float
half = power (negsuc 0)

-- by 2, by 4 and by 8
abbrev pub halved : Float → Float
halved x = div binary64 x (power (pos 1))

abbrev pub quartered : Float → Float
quartered x = div binary64 x (power (pos 2))

abbrev pub eighth : Float → Float
eighth x = div binary64 x (power (pos 3))

-- added up from left to right
abbrev pub total_from : Float → List Float → Float
total_from t [] = t
total_from t (x ∷ xs) = total_from (add binary64 t x) xs

-- cosine number n of a list that begins with n = 1
abbrev pub cosine : List Float → ℕ → Float
cosine cs n = get_or cs (n - 1) nan

-- (5/8 - a·a)/n, where a is 3/8 + cos(2·pi/n)/4
abbrev pub spread : Float → Float
spread c = add binary64 three_eighths (quartered c)

unfoldable pub weight : List Float → ℕ → Float
weight twos n =
    div binary64 (sub binary64 five_eighths (mul binary64 (spread (cosine twos n)) (spread (cosine twos n)))) (of_int binary64 (pos n))

-- coordinate a of position v, and how far position w lies from it on that axis
abbrev pub coordinate : List Float → ℕ → ℕ → Float
coordinate ps a v = get_or ps (point_width * v + a) nan

abbrev pub from : List Float → ℕ → ℕ → ℕ → Float
from ps a v w = sub binary64 (coordinate ps a w) (coordinate ps a v)

-- a rule of one axis, at each of the three
abbrev pub axes : (ℕ → Float) → List Float
axes f = f 0 ∷ f 1 ∷ f 2 ∷ []

-- how far all neighbours of a position lie from it, added up in their order
unfoldable pub pull : List Ring → List Float → ℕ → ℕ → Float
pull fs ps a v = total_from nought (map (from ps a v) (neighbours fs v))

module _ (fs : List Ring) (ps ones twos : List Float) where
  -- an old position
  abbrev pub moved_by_lem : Condition → ℕ → ℕ → Float
  moved_by_lem Corner a v = coordinate ps a v
  moved_by_lem (Boundary x y) a v = add binary64 (coordinate ps a v) (eighth (add binary64 (from ps a v x) (from ps a v y)))
  moved_by_lem Inner a v =
      add binary64 (coordinate ps a v) (mul binary64 (pull fs ps a v) (weight twos (length (neighbours fs v))))

  -- how far along an edge with two wings, from its lower position on; at a corner there is no such edge
  abbrev pub share : Condition → Condition → ℕ → ℕ → Float
  share (Boundary x y) c v w = sub binary64 five_eighths (quartered (cosine ones (length (neighbours fs v))))
  share Inner (Boundary x y) v w = add binary64 three_eighths (quartered (cosine ones (length (neighbours fs w))))
  share Inner Inner v w = half
  share Inner Corner v w = nan
  share Corner c v w = nan

  -- the new position on an edge with two wings
  abbrev pub between : ℕ → Edge → Float
  between a k =
      add binary64
      (add binary64
      (add binary64 (coordinate ps a k.0)
      (mul binary64 (from ps a k.0 k.1) (share (condition fs k.0) (condition fs k.1) k.0 k.1)))
      (eighth (from ps a k.0 (first_wing fs k))))
      (eighth (from ps a k.1 (second_wing fs k)))

  -- the new position on an edge; half way where it has one wing only
  abbrev pub middle_of : ℕ → Edge → Float
  middle_of a k =
      cond (single fs k) (add binary64 (coordinate ps a k.0) (halved (from ps a k.0 k.1))) (between a k)

  -- old positions moved first, then one per edge by first use
  unfoldable pub smoothed_positions : ℕ → List Float
  smoothed_positions n =
      each (λ v. axes (λ a. moved_by_lem (condition fs v) a v)) (span 0 n) ++ each (λ k. axes (λ a. middle_of a k)) (edges_by_use fs)
