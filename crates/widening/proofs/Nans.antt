-- The f32 of 32 bits as an f64: which bits stand for a NaN, and that any other fits. Assumes nothing.
use mathlib.Core.Path.{◌≡◌, refl, sym, ◌∙◌}
use mathlib.Core.Bool.{Bool, true, false, not}
use Prim.Native.Nat.{ℕ, ◌%◌, ◌<◌, ◌≤◌}
use lib.Dec.{T, ltb, lt→ltb}
use lib.Ieee.{Float, nan, inf, fin, binary32, of_bits, is_nan, nan_bits}
use lib.Ieee.Bits.{is_true, nan_bits_is, nan_bits_above}
use borrow.Author.Tests.{le-ltb}

nan_of : (x : Float) → is_nan x ≡ true → x ≡ nan
unfolding is_nan
nan_of nan h = refl
nan_of (inf s) h = let z : ◌≡◌ {A = Bool} false true = h in cc
nan_of (fin s m e) h = let z : ◌≡◌ {A = Bool} false true = h in cc

above : (n : ℕ) → nan_bits binary32 n ≡ ltb 2139095040 (n % 2147483648)
above n = nan_bits_above binary32 n

-- bits that are no NaN's
module _ (n : ℕ) (h : n % 2147483648 ≤ 2139095040) where
  no_nan : nan_bits binary32 n ≡ false
  no_nan = above n ∙ le-ltb 2139095040 (n % 2147483648) h

  pub made : T (not (nan_bits binary32 n))
  made = rw no_nan tt

-- bits that are
pub special : (n : ℕ) → 2139095040 < n % 2147483648 → of_bits binary32 n ≡ nan
special n h = nan_of (of_bits binary32 n) (sym (nan_bits_is binary32 n) ∙ above n ∙ is_true _ (lt→ltb _ _ h))
