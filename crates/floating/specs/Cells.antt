-- Cells: every quotient coordinate/tolerance is cut toward zero; and which points are compared. Assumes nothing.
use Rattle.std.specs.Prelude.{Bool, true, false, ◌&&◌, List, [], ◌∷◌, ℕ, ◌+◌, ◌-◌, ◌*◌, ◌/◌, suc, leb, ℤ, pos, negsuc, neg_ℤ, nat_abs, ◌-ℤ◌, Float}
use Rattle.std.specs.Float.{nan, inf, fin}
use Rattle.std.specs.Float.Ieee.{up, down}
use Rattle.floating.specs.Limits.{quotient_limit, quotient}

-- n with a sign
abbrev pub signed : Bool → ℕ → ℤ
signed false n = pos n
signed true n = neg_ℤ (pos n)

-- a number cut toward zero: m * 2 ^ e without its fraction, with its sign (what is no finite number is never asked, by rows 6 to 8)
unfoldable pub cut : Float → ℤ
cut nan = pos 0
cut (inf s) = pos 0
cut (fin s m e) = signed s (m * up e / down e)

-- the cell of a coordinate
abbrev pub cell : Float → Float → ℤ
cell t x = cut (quotient t x)

-- two cells differ by at most 2
abbrev pub reach : ℕ
reach = 2

abbrev pub within : ℤ → ℤ → Bool
within a b = leb (nat_abs (a -ℤ b)) reach

-- two points are compared when their cells differ by at most 2 on every axis
unfoldable pub compared : Float → List Float → List Float → Bool
unfolding cut
compared t [] qs = true
compared t (p ∷ ps) [] = true
compared t (p ∷ ps) (q ∷ qs) = within (cell t p) (cell t q) && compared t ps qs

-- ---- the same in numbers that are not negative: a cell from -2^53 to 2^53 as its place among them

-- the greatest place
abbrev pub place_most : ℕ
place_most = quotient_limit + quotient_limit

unfoldable pub place : ℤ → ℕ
place (pos n) = quotient_limit + n
place (negsuc n) = quotient_limit - suc n

abbrev pub beside : ℕ → ℕ → Bool
beside a b = leb a (b + reach) && leb b (a + reach)

abbrev pub besides : List ℕ → List ℕ → Bool
besides [] ys = true
besides (x ∷ xs) [] = true
besides (x ∷ xs) (y ∷ ys) = beside x y && besides xs ys
