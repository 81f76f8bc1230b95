-- Each formula of an axis, from the operations on points that it is made of. Assumes nothing.
use Rattle.std.proofs.Common.{◌≡◌, ℕ, List, pos, Float}
use lib.Ieee.{binary64, of_bits, add, sub, mul, div, of_int}
use Rattle.floating.specs.Scaling.{axes1, axes2, axes3}
use Rattle.floating.specs.declared.Point.{Point}
use Rattle.floating.proofs.Literals.{two_is}
use Rattle.smoothed.specs.Positions.{cosine, spread, weight}
use Rattle.moved.specs.Axis.{bent, drawn, halfway, winged, axes4}
use Rattle.moved.proofs.Literals.{eight_is, five_eighths_is}

-- the literals, as the code has them
abbrev two : Float
two = of_bits binary64 0x4000_0000_0000_0000

abbrev eight : Float
eight = of_bits binary64 0x4020_0000_0000_0000

abbrev by : Float → Point → Point
by d p = axes1 (λ x. div binary64 x d) p

abbrev plus : Point → Point → Point
plus p q = axes2 (add binary64) p q

abbrev minus : Point → Point → Point
minus p q = axes2 (sub binary64) p q

abbrev times : Float → Point → Point
times d p = axes1 (λ x. mul binary64 x d) p

pub bent_is :
    (p x y a b s e r : Point) → a ≡ minus x p → b ≡ minus y p → s ≡ plus a b → e ≡ by eight s → r ≡ plus p e → r ≡ axes3 bent p x y
unfolding bent
bent_is p x y a b s e r i j k l m = rw (m, l, k, i, j, eight_is)

pub drawn_is : (p q t r : Point) (d : Float) → t ≡ times d q → r ≡ plus p t → r ≡ axes2 (drawn d) p q
unfolding drawn
drawn_is p q t r d i j = rw (j, i)

pub halfway_is : (p q a h r : Point) → a ≡ minus q p → h ≡ by two a → r ≡ plus p h → r ≡ axes2 halfway p q
unfolding halfway
halfway_is p q a h r i j k = rw (k, j, i, two_is)

-- the point on the edge; then with one wing; then with both
pub winged_is :
    (p q f s : Point) (d : Float) (a t o b g u c h r : Point)
    → a ≡ minus q p → t ≡ times d a → o ≡ plus p t
    → b ≡ minus f p → g ≡ by eight b → u ≡ plus o g
    → c ≡ minus s q → h ≡ by eight c → r ≡ plus u h
    → r ≡ axes4 (winged d) p q f s
unfolding winged
winged_is p q f s d a t o b g u c h r i1 i2 i3 i4 i5 i6 i7 i8 i9 = rw (i9, i8, i7, i6, i5, i4, i3, i2, i1, eight_is)

-- the weight, from the cosine, its spread and the count
pub weight_is :
    (twos : List Float) (n : ℕ) (k a d : Float) → k ≡ cosine twos n → a ≡ spread k → d ≡ of_int binary64 (pos n)
    → div binary64 (sub binary64 (of_bits binary64 0x3fe4_0000_0000_0000) (mul binary64 a a)) d ≡ weight twos n
unfolding weight
weight_is twos n k a d i j e = rw (j, i, e, five_eighths_is)
