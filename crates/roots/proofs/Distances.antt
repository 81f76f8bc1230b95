-- The difference of two signed numbers by the numbers from 0 that stand for them, and how large differences and squared distances
-- get. Assumes nothing.
use mathlib.Core.Path.{◌≡◌, refl}
use mathlib.Core.Bool.{Bool, true, false, cond}
use Prim.Native.Nat.{ℕ, zero, suc, ◌+◌, ◌-◌, ◌*◌, ◌≤◌, ◌<◌}
use native.Mathlib.Nat.{mul-le-mul}
use native.Mathlib.Omega.{arith}
use lib.Dec.{ltb}
use lib.IntN.{ℤ, pos, negsuc, nat_abs, sub_ℕ}
use borrow.Author.Tests.{ltb-true, ltb-false}
use Rattle.roots.specs.Distances.{apart_by, Point, squares, Reached, Spanned, coordinate_limit, span_limit, squared_limit}

-- ---- one difference

gap : (m n : ℕ) → nat_abs (sub_ℕ m n) ≡ (m - n) + (n - m)
gap m n = go (ltb m n) refl
  where
    go : (b : Bool) → ltb m n ≡ b → nat_abs (cond b (negsuc (n - suc m)) (pos (m - n))) ≡ (m - n) + (n - m)
    go true q = let l : m < n = ltb-true m n q in omega arith
    go false q = let l : n ≤ m = ltb-false m n q in omega arith

-- no further than both from 0
pub apart_most : (a b : ℤ) → apart_by a b ≤ nat_abs a + nat_abs b
apart_most (pos m) (pos zero) = omega arith
apart_most (pos m) (pos (suc n)) = let e : nat_abs (sub_ℕ m (suc n)) ≡ (m - suc n) + (suc n - m) = gap m (suc n) in omega arith
apart_most (pos m) (negsuc n) = omega arith
apart_most (negsuc m) (pos zero) = let e : nat_abs (sub_ℕ 0 (suc m)) ≡ (0 - suc m) + (suc m - 0) = gap 0 (suc m) in omega arith
apart_most (negsuc m) (pos (suc n)) = omega arith
apart_most (negsuc m) (negsuc n) =
    let e : nat_abs (sub_ℕ (suc n) (suc m)) ≡ (suc n - suc m) + (suc m - suc n) = gap (suc n) (suc m) in omega arith

-- ---- the squared distance

pub spanned : (a b : Point) → Reached a → Reached b → Spanned (apart_by a.0 b.0) (apart_by a.1 b.1) (apart_by a.2 b.2)
spanned a b r s =
    record {
      first = few a.0 b.0 r.first s.first;
      second = few a.1 b.1 r.second s.second;
      third = few a.2 b.2 r.third s.third;
    }
  where
    few : (x y : ℤ) → nat_abs x ≤ coordinate_limit → nat_abs y ≤ coordinate_limit → apart_by x y ≤ span_limit
    few x y h k = let l : apart_by x y ≤ nat_abs x + nat_abs y = apart_most x y in omega arith

pub square_most : (x : ℕ) → x ≤ span_limit → x * x ≤ span_limit * span_limit
square_most x h = mul-le-mul h h

pub squares_most : (x y z : ℕ) → Spanned x y z → squares x y z ≤ squared_limit
squares_most x y z s =
    let a : x * x ≤ span_limit * span_limit = square_most x s.first in
    let b : y * y ≤ span_limit * span_limit = square_most y s.second in
    let c : z * z ≤ span_limit * span_limit = square_most z s.third in
    omega arith

-- by numbers that are equal to the differences
pub spanned_by :
    (a b : Point) (x y z : ℕ) → x ≡ apart_by a.0 b.0 → y ≡ apart_by a.1 b.1 → z ≡ apart_by a.2 b.2
    → Reached a → Reached b → Spanned x y z
spanned_by a b x y z p q r m n =
    let s : Spanned (apart_by a.0 b.0) (apart_by a.1 b.1) (apart_by a.2 b.2) = spanned a b m n in
    let f : _ = s.first in
    let g : _ = s.second in
    let h : _ = s.third in
    record { first = omega arith; second = omega arith; third = omega arith }
