-- What rows 6, 7 and 8 of document 01's table, and row 14 of document 02, say of one number. `fin s m e` is the number m * 2 ^ e, negative
-- where s is true; m * 2 ^ e is the fraction m * up e / down e. Assumes nothing.
use Rattle.std.specs.Prelude.{Bool, true, false, not, ◌&&◌, List, ℕ, ◌*◌, ◌^◌, ℤ, pos, negsuc, leb, ltb, Float}
use Rattle.std.specs.Float.{nan, inf, fin, binary64}
use Rattle.std.specs.Float.Ieee.{up, down, le, div}
use Rattle.lists.specs.Lists.{every}

-- 2 ^ e
abbrev pub power : ℤ → Float
power e = fin false 1 e

-- the least tolerance and the greatest, the greatest magnitude of a coordinate, and what that of a quotient stays below
abbrev pub least_tolerance : Float
least_tolerance = power (negsuc 29)

abbrev pub greatest_tolerance : Float
greatest_tolerance = power (pos 0)

abbrev pub coordinate_most : ℕ
coordinate_most = 2 ^ 60

abbrev pub quotient_limit : ℕ
quotient_limit = 2 ^ 53

-- 6: tolerance is not a number from 2^-30 to 1 inclusive
unfoldable pub unfit : Float → Bool
unfit t = not (le least_tolerance t && le t greatest_tolerance)

-- 7: a coordinate is not finite, or its magnitude is above 2^60
unfoldable pub boundless : Float → Bool
boundless nan = true
boundless (inf s) = true
boundless (fin s m e) = ltb (coordinate_most * down e) (m * up e)

-- 8: a quotient has magnitude 2^53 or more; what is no number at all is not below it either
unfoldable pub far : Float → Bool
far nan = true
far (inf s) = true
far (fin s m e) = leb (quotient_limit * down e) (m * up e)

-- a coordinate divided by the tolerance
abbrev pub quotient : Float → Float → Float
quotient t x = div binary64 x t

abbrev pub distant : Float → Float → Bool
distant t x = far (quotient t x)

-- 14: what is finite is a number, and no infinity; it may be as large as an f64 can be
unfoldable pub finite : Float → Bool
finite nan = false
finite (inf s) = false
finite (fin s m e) = true

-- every coordinate of three lists is: those of positions, texture points and normals, whether a corner uses them or not
unfoldable pub all_finite : List Float → List Float → List Float → Bool
all_finite p t n = every finite p && (every finite t && every finite n)
