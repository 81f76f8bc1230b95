-- A quotient below 2^53, cut toward zero by the cast to a signed number, and the place of the cell. Assumes nothing.
use mathlib.Core.Path.{◌≡◌, refl, ap}
use mathlib.Core.Bool.{Bool, true, false}
use Prim.Native.Nat.{ℕ, suc, ◌-◌, ◌*◌, ◌/◌, ◌^◌, ◌≤◌, ◌<◌, min}
use native.Mathlib.Nat.{div-lt_iff_lt-mul}
use native.Mathlib.Omega.{arith}
use lib.IntN.{ℤ, pos, negsuc, neg_ℤ, nat_abs, ◌+ℤ◌}
use lib.Ieee.{Float, nan, inf, fin, up, down, to_signed}
use lib.Ieee.Fits.{down_pos}
use borrow.Author.Tests.{leb-false, le-ltb}
use Rattle.lists.proofs.Bools.{true_false}
use Rattle.floating.specs.Limits.{far}
use Rattle.floating.specs.Cells.{signed, cut, place}

-- the cast stops at the ends of 64 bits, which such a quotient does not come to
uncapped : (n c : ℕ) → n < 2 ^ 53 → 2 ^ 53 ≤ c → min n c ≡ n
uncapped n c h k = omega arith

pub cast_cut : (q : Float) → far q ≡ false → to_signed 63 q ≡ cut q
unfolding far cut to_signed
cast_cut nan h = true_false h
cast_cut (inf s) h = true_false h
cast_cut (fin s m e) h =
    let l : m * up e / down e < 2 ^ 53 = (div-lt_iff_lt-mul (down_pos e)).1 (leb-false (2 ^ 53 * down e) (m * up e) h) in go s l
  where
    go : (s : Bool) → m * up e / down e < 2 ^ 53 → to_signed 63 (fin s m e) ≡ signed s (m * up e / down e)
    go false l = ap pos (uncapped (m * up e / down e) (2 ^ 63 - 1) l (omega arith))
    go true l = ap (λ (n : ℕ). neg_ℤ (pos n)) (uncapped (m * up e / down e) (2 ^ 63) l (omega arith))

-- the place of a cell is as far above 2^53 as the cell is above 0
pub place_is_sum : (z : ℤ) → nat_abs z ≤ 2 ^ 53 → pos (2 ^ 53) +ℤ z ≡ pos (place z)
unfolding place
place_is_sum (pos n) h = refl
place_is_sum (negsuc n) h = rw (le-ltb (2 ^ 53) (suc n) h)

pub place_small : (z : ℤ) → nat_abs z ≤ 2 ^ 53 → place z < 2 ^ 63
unfolding place
place_small (pos n) h = omega arith
place_small (negsuc n) h = omega arith
