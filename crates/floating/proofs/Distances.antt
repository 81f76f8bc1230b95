-- The squared distance of a point to a centre, where the point's coordinates are at most 2^60 and the centre's at most 2,048 times as
-- much: each step of it is a finite number, and such numbers are ordered as whole numbers are. Assumes nothing.
use mathlib.Core.Path.{◌≡◌, refl, ap, ◌∙◌, subst}
use mathlib.Core.Bool.{false}
use mathlib.Core.List.{List, [], ◌∷◌}
use Prim.Native.Nat.{ℕ, suc, ◌+◌, ◌*◌, ◌^◌, ◌≤◌}
use native.Mathlib.Nat.{mul-le-mul_right}
use native.Mathlib.Omega.{arith}
use lib.Dec.{ltb, lit≤, lit<}
use lib.ListN.{length}
use lib.Ieee.{Float, nan, inf, fin, binary64, low, down, add, sub, lt}
use lib.Ieee.Exact.{HasValue}
use Rattle.floating.specs.Near.{nought, square, sum_from, squared}
use Rattle.floating.proofs.Heights.{height, lt_height}
use Rattle.floating.proofs.Bounded.{sign_of, units_of, units_are}
use Rattle.floating.proofs.Upto.{Exact, Upto, upto_more, upto_sum, upto_difference, upto_product, exact_at}
use Rattle.floating.proofs.InBox.{All, bound}

-- the most points that a centre is the sum of
abbrev pub crowd : ℕ
crowd = 2048

-- so many times 2^60, in units, is a number that the format holds
pub exact_bound : (n : ℕ) → n ≤ crowd + 1 → Exact binary64 (n * bound)
exact_bound n l = exact_at binary64 (lit< tt) (lit≤ tt) n 60 (omega arith) (lit≤ tt)

-- ---- squares

-- 2,049 times 2,049
abbrev sides : ℕ
sides = 4198401

-- 2^120, in units
abbrev area : ℕ
area = 2 ^ (120 + low binary64)

exact_area : (n : ℕ) → n ≤ 3 → Exact binary64 (n * sides * area)
exact_area n l = exact_at binary64 (lit< tt) (lit≤ tt) (n * sides) 120 (omega arith) (lit≤ tt)

area_holds : (crowd + 1) * bound * ((crowd + 1) * bound) ≤ 1 * sides * area * 2 ^ low binary64
area_holds = lit≤ tt

pub square_upto : (p q : Float) → Upto binary64 bound p → Upto binary64 (crowd * bound) q → Upto binary64 (1 * sides * area) (square p q)
square_upto p q h k =
    let d : Upto binary64 ((crowd + 1) * bound) (sub binary64 p q) = upto_difference binary64 bound (crowd * bound) ((crowd + 1) * bound) p q h k (exact_bound (crowd + 1) (lit≤ tt)) (lit≤ tt) in
    upto_product binary64 ((crowd + 1) * bound) ((crowd + 1) * bound) (1 * sides * area) (sub binary64 p q) (sub binary64 p q) d d (exact_area 1 (lit≤ tt)) area_holds

-- a number that no squared distance exceeds, in units
abbrev pub farthest : ℕ
farthest = 3 * sides * area

fewer : (n a : ℕ) → n ≤ 3 → n * sides * a ≤ 3 * sides * a
fewer n a h = mul-le-mul_right a (let z : n * sides ≤ 3 * sides = omega arith in z)

sums_upto :
    (n : ℕ) (a : Float) (ps qs : List Float)
    → n + length ps ≤ 3
    → Upto binary64 (n * sides * area) a
    → All (Upto binary64 bound) ps
    → All (Upto binary64 (crowd * bound)) qs
    → Upto binary64 farthest (sum_from a ps qs)
unfolding sum_from
sums_upto n a [] qs l h c d = upto_more binary64 (n * sides * area) farthest a (fewer n area (omega arith)) h
sums_upto n a (p ∷ ps) [] l h c d = upto_more binary64 (n * sides * area) farthest a (fewer n area (omega arith)) h
sums_upto n a (p ∷ ps) (q ∷ qs) l h c d =
    let m : suc n ≤ 3 = omega arith in
    sums_upto (suc n) (add binary64 a (square p q)) ps qs (omega arith)
    (upto_sum binary64 (n * sides * area) (1 * sides * area) (suc n * sides * area) a (square p q) h (square_upto p q c.0 d.0) (exact_area (suc n) m) (one_more n area))
    c.1
    d.1
  where
    one_more : (n a : ℕ) → n * sides * a + 1 * sides * a ≤ suc n * sides * a
    one_more n a = omega arith

-- nothing, at a width of 0
pub nought_upto : (c : ℕ) → Upto binary64 c nought
nought_upto c = record { sign = false; size = 0; value = (refl, refl); most = omega arith }

pub squared_upto : (ps qs : List Float) → length ps ≤ 3 → All (Upto binary64 bound) ps → All (Upto binary64 (crowd * bound)) qs → Upto binary64 farthest (squared ps qs)
unfolding squared
squared_upto [] qs l c d = nought_upto farthest
squared_upto (p ∷ ps) [] l c d = nought_upto farthest
squared_upto (p ∷ ps) (q ∷ qs) l c d = sums_upto 1 (square p q) ps qs (omega arith) (square_upto p q c.0 d.0) c.1 d.1

-- ---- order

abbrev pub level : Float → ℕ
level x = height farthest (sign_of x) (units_of binary64 x)

own_value : (c : ℕ) (x : Float) → Upto binary64 c x → HasValue x (sign_of x) (units_of binary64 x) (2 ^ low binary64) × (units_of binary64 x ≤ c)
own_value c nan h = absurd h.value
own_value c (inf s) h = absurd h.value
own_value c (fin s m e) h =
    let i : h.size ≡ units_of binary64 (fin s m e) = units_are binary64 s m e h.sign h.size h.value in
    ((refl, h.value.1 ∙ ap (λ (k : ℕ). k * down e) i), subst (λ (k : ℕ). k ≤ c) i h.most)

pub lt_level : (x y : Float) → Upto binary64 farthest x → Upto binary64 farthest y → lt x y ≡ ltb (level x) (level y)
lt_level x y h k =
    let a = own_value farthest x h in
    let b = own_value farthest y k in
    lt_height binary64 farthest x y (sign_of x) (sign_of y) (units_of binary64 x) (units_of binary64 y) a.1 b.1 a.0 b.0
