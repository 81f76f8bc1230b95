-- Positions scaled in their box: what holds of every number from -2 to 2 holds of each scaled coordinate. So no scaled position
-- reaches 2^53 when it is divided by the tolerance. Assumes nothing.
use mathlib.Core.Path.{◌≡◌, refl, sym, subst}
use mathlib.Core.Bool.{Bool, true, false, ◌&&◌, ◌||◌}
use mathlib.Core.List.{List, [], ◌∷◌, ◌++◌, map}
use Prim.Native.Nat.{ℕ, suc, ◌+◌, ◌*◌, ◌^◌, ◌≤◌, ◌<◌}
use native.Mathlib.Nat.{mul-le-mul_right, le_refl, le_trans}
use native.Mathlib.Omega.{arith}
use lib.IntN.{pos, negsuc}
use lib.Dec.{T, lit≤, lit<}
use lib.Pow.{pow-add}
use lib.ListN.{length}
use lib.Ieee.{Float, nan, inf, fin, binary64, low, le}
use lib.Ieee.Scale.{finite}
use borrow.Author.Tests.{not-false}
use Rattle.lists.specs.Lists.{some, each}
use Rattle.lists.proofs.Bools.{true_false, or_neither, or_false_left, or_false_right, and_left}
use Rattle.floating.specs.Limits.{power, unfit, boundless, distant}
use Rattle.floating.specs.Points.{coordinates, points_of}
use Rattle.floating.specs.Scaling.{centre_of, divisor_of, scaled_of, around, box_with, box_from, box_of, scaled_in, scaled_list}
use Rattle.floating.specs.Promises.{Doubles, ScaledNear}
use Rattle.floating.specs.declared.Point.{Point}
use Rattle.floating.specs.declared.Bounds.{Bounds}
use Rattle.floating.proofs.Upto.{Upto}
use Rattle.floating.proofs.Within.{Scaled}
use Rattle.floating.proofs.Bounded.{sign_of, units_of, tall, Good, good, Tolerance, tolerance_of, quotient_near, axis}
use Rattle.floating.proofs.Bounded.{lesser_good, lesser_left, lesser_right, greater_good, greater_left, greater_right}

-- ---- a box, and the points in it

abbrev pub All : {A : Type 0} → (A → Type 0) → List A → Type 0
All P [] = Unit
All P (x ∷ l) = P x × All P l

abbrev good64 : Float → Type 0
good64 x = Good binary64 x

abbrev tall64 : Float → ℕ
tall64 x = tall binary64 x

record GoodPoint (p : Point) : Type 0 where
  pub on_x : good64 p.x
  pub on_y : good64 p.y
  pub on_z : good64 p.z

record GoodBox (b : Bounds) : Type 0 where
  pub least : GoodPoint b.least
  pub greatest : GoodPoint b.greatest

-- p is not above q, on each axis
record Under (p q : Point) : Type 0 where
  pub on_x : tall64 p.x ≤ tall64 q.x
  pub on_y : tall64 p.y ≤ tall64 q.y
  pub on_z : tall64 p.z ≤ tall64 q.z

record Boxed (b : Bounds) (p : Point) : Type 0 where
  pub above : Under b.least p
  pub below : Under p b.greatest

under_refl : (p : Point) → Under p p
under_refl p = record { on_x = le_refl (tall64 p.x); on_y = le_refl (tall64 p.y); on_z = le_refl (tall64 p.z) }

under_trans : {p q r : Point} → Under p q → Under q r → Under p r
under_trans a b = record { on_x = le_trans a.on_x b.on_x; on_y = le_trans a.on_y b.on_y; on_z = le_trans a.on_z b.on_z }

-- one point more in a box
module _ (b : Bounds) (p : Point) (g : GoodBox b) (h : GoodPoint p) where
  more_good : GoodBox (box_with b p)
  more_good = record {
    least = record {
      on_x = lesser_good binary64 b.least.x p.x g.least.on_x h.on_x;
      on_y = lesser_good binary64 b.least.y p.y g.least.on_y h.on_y;
      on_z = lesser_good binary64 b.least.z p.z g.least.on_z h.on_z;
    };
    greatest = record {
      on_x = greater_good binary64 b.greatest.x p.x g.greatest.on_x h.on_x;
      on_y = greater_good binary64 b.greatest.y p.y g.greatest.on_y h.on_y;
      on_z = greater_good binary64 b.greatest.z p.z g.greatest.on_z h.on_z;
    };
  }

  more_point : Boxed (box_with b p) p
  more_point = record {
    above = record {
      on_x = lesser_right binary64 b.least.x p.x g.least.on_x h.on_x;
      on_y = lesser_right binary64 b.least.y p.y g.least.on_y h.on_y;
      on_z = lesser_right binary64 b.least.z p.z g.least.on_z h.on_z;
    };
    below = record {
      on_x = greater_right binary64 b.greatest.x p.x g.greatest.on_x h.on_x;
      on_y = greater_right binary64 b.greatest.y p.y g.greatest.on_y h.on_y;
      on_z = greater_right binary64 b.greatest.z p.z g.greatest.on_z h.on_z;
    };
  }

  more_least : Under (box_with b p).least b.least
  more_least = record {
    on_x = lesser_left binary64 b.least.x p.x g.least.on_x h.on_x;
    on_y = lesser_left binary64 b.least.y p.y g.least.on_y h.on_y;
    on_z = lesser_left binary64 b.least.z p.z g.least.on_z h.on_z;
  }

  more_greatest : Under b.greatest (box_with b p).greatest
  more_greatest = record {
    on_x = greater_left binary64 b.greatest.x p.x g.greatest.on_x h.on_x;
    on_y = greater_left binary64 b.greatest.y p.y g.greatest.on_y h.on_y;
    on_z = greater_left binary64 b.greatest.z p.z g.greatest.on_z h.on_z;
  }

  more_old : (q : Point) → Boxed b q → Boxed (box_with b p) q
  more_old q i = record { above = under_trans more_least i.above; below = under_trans i.below more_greatest }

-- many points more
record Boxes (b c : Bounds) (ps : List Point) : Type 0 where
  pub still : GoodBox c
  pub old : (q : Point) → Boxed b q → Boxed c q
  pub new : All (Boxed c) ps

boxes : (ps : List Point) (b : Bounds) → GoodBox b → All GoodPoint ps → Boxes b (box_from b ps) ps
boxes [] b g h = record { still = g; old = λ q i. i; new = tt }
boxes (p ∷ ps) b g h =
    let r = boxes ps (box_with b p) (more_good b p g h.0) h.1 in
    record {
      still = r.still;
      old = λ q i. r.old q (more_old b p g h.0 q i);
      new = (r.old p (more_point b p g h.0), r.new);
    }

-- ---- the scaled list: what holds of every number from -2 to 2 holds of each of its coordinates

all_append : {A : Type 0} (P : A → Type 0) (l r : List A) → All P l → All P r → All P (l ++ r)
all_append P [] r h k = k
all_append P (x ∷ l) r h k = (h.0, all_append P l r h.1 k)

all_none : (p : Float → Bool) (s : List Float) → All (λ (x : Float). p x ≡ false) s → some p s ≡ false
all_none p [] h = refl
all_none p (x ∷ s) h = or_neither (p x) (some p s) h.0 (all_none p s h.1)

module _ (P : Float → Type 0) (own : (x : Float) → Scaled binary64 x → P x) where
  axis_is : (l p g : Float) → good64 l → good64 p → good64 g → tall64 l ≤ tall64 p → tall64 p ≤ tall64 g → P (scaled_of p (centre_of l g) (divisor_of l g))
  unfolding scaled_of centre_of divisor_of
  axis_is l p g a b d h k = own (scaled_of p (centre_of l g) (divisor_of l g)) (axis binary64 (lit< tt) l p g a b d h k)

  point_is : (b : Bounds) (p : Point) → GoodBox b → GoodPoint p → Boxed b p → All P (coordinates (scaled_in b p))
  point_is b p g h i = (
    axis_is b.least.x p.x b.greatest.x g.least.on_x h.on_x g.greatest.on_x i.above.on_x i.below.on_x,
    (
      axis_is b.least.y p.y b.greatest.y g.least.on_y h.on_y g.greatest.on_y i.above.on_y i.below.on_y,
      (axis_is b.least.z p.z b.greatest.z g.least.on_z h.on_z g.greatest.on_z i.above.on_z i.below.on_z, tt),
    ),
  )

  points_are : (b : Bounds) (ps : List Point) → GoodBox b → All GoodPoint ps → All (Boxed b) ps → All P (each coordinates (map (scaled_in b) ps))
  points_are b [] g h i = tt
  points_are b (p ∷ ps) g h i =
      all_append P (coordinates (scaled_in b p)) (each coordinates (map (scaled_in b) ps)) (point_is b p g h.0 i.0) (points_are b ps g h.1 i.1)

  box_are : (ps : List Point) → All GoodPoint ps → All P (each coordinates (map (scaled_in (box_of ps)) ps))
  unfolding box_of
  box_are [] g = tt
  box_are (p ∷ ps) g =
      let first : GoodBox (around p) = record { least = g.0; greatest = g.0 } in
      let r : Boxes (around p) (box_from (around p) ps) ps = boxes ps (around p) first g.1 in
      let in-first : Boxed (around p) p = record { above = under_refl p; below = under_refl p } in
      points_are (box_from (around p) ps) (p ∷ ps) r.still g (r.old p in-first, r.new)

-- 2^60, in units
abbrev pub bound : ℕ
bound = 2 ^ (60 + low binary64)

bound_is : bound ≡ 2 ^ 60 * 2 ^ low binary64
bound_is = pow-add 2 60 (low binary64)

two_below : (a : ℕ) → a ≤ 2 * 2 ^ low binary64 → a ≤ bound
two_below a l = le_trans l (subst (λ (k : ℕ). 2 * 2 ^ low binary64 ≤ k) (sym bound_is) (mul-le-mul_right {m = 2} {n = 2 ^ 60} (2 ^ low binary64) (lit≤ tt)))

-- the points of a flat list whose coordinates are good
good_points : (s : List Float) → Doubles s → some boundless s ≡ false → All GoodPoint (points_of s)
good_points [] f h = tt
good_points (x ∷ []) f h = tt
good_points (x ∷ y ∷ []) f h = tt
good_points (x ∷ y ∷ z ∷ s) f h =
    let hx : boundless x ≡ false = or_false_left (boundless x) (boundless y || (boundless z || some boundless s)) h in
    let h1 : (boundless y || (boundless z || some boundless s)) ≡ false = or_false_right (boundless x) (boundless y || (boundless z || some boundless s)) h in
    let h2 : (boundless z || some boundless s) ≡ false = or_false_right (boundless y) (boundless z || some boundless s) h1 in (
      record {
        on_x = good binary64 x (f 0 (omega arith)) hx;
        on_y = good binary64 y (f 1 (omega arith)) (or_false_left (boundless y) (boundless z || some boundless s) h1);
        on_z = good binary64 z (f 2 (omega arith)) (or_false_left (boundless z) (some boundless s) h2);
      },
      good_points s (λ k l. f (suc (suc (suc k))) (let m : k < length s = l in omega arith)) (or_false_right (boundless z) (some boundless s) h2),
    )

fit_finite : (t : Float) → unfit t ≡ false → T (finite t)
unfolding unfit le
fit_finite nan h = true_false h
fit_finite (inf true) h = true_false h
fit_finite (inf false) h = true_false h
fit_finite (fin s m e) h = tt

fit_least : (t : Float) → unfit t ≡ false → le (power (negsuc 29)) t ≡ true
unfolding unfit
fit_least t h = and_left (le (power (negsuc 29)) t) (le t (power (pos 0))) (not-false (le (power (negsuc 29)) t && le t (power (pos 0))) h)

-- ---- a flat list of positions, each an f64 that row 7 lets through

scaled_are : (P : Float → Type 0) → ((x : Float) → Scaled binary64 x → P x) → (s : List Float) → Doubles s → some boundless s ≡ false → All P (scaled_list s)
unfolding scaled_list box_of
scaled_are P own s f h = box_are P own (points_of s) (good_points s f h)

-- no scaled position reaches 2^53 when it is divided by the tolerance
pub scaled_near : ScaledNear
scaled_near s f h t ft u =
    let c : Tolerance binary64 t = tolerance_of binary64 t ft (fit_least t u) (fit_finite t u) in
    all_none (distant t) (scaled_list s) (scaled_are (λ (x : Float). distant t x ≡ false) (λ x q. quotient_near binary64 (lit< tt) x t q c) s f h)

-- scaled or not, each is a finite number of at most 2^60
pub scaled_upto : (s : List Float) → Doubles s → some boundless s ≡ false → All (Upto binary64 bound) (scaled_list s)
scaled_upto = scaled_are (Upto binary64 bound) (λ x q. record { sign = q.sign; size = q.size; value = q.value; most = two_below q.size q.most })

pub list_upto : (s : List Float) → Doubles s → some boundless s ≡ false → All (Upto binary64 bound) s
list_upto [] f h = tt
list_upto (x ∷ s) f h =
    let g : good64 x = good binary64 x (f 0 (omega arith)) (or_false_left (boundless x) (some boundless s) h) in (
      record { sign = sign_of x; size = units_of binary64 x; value = g.value; most = subst (λ (k : ℕ). units_of binary64 x ≤ k) (sym bound_is) g.small },
      list_upto s (λ k l. f (suc k) (let m : k < length s = l in omega arith)) (or_false_right (boundless x) (some boundless s) h),
    )
