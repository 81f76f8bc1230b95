-- One coordinate that row 7 lets through, scaled on its axis, lies from -2 to 2; the tolerance is 2^-30 at least, so the quotient
-- is 2^31 at most. Row 8 of the table is rightly not asked of positions. Assumes nothing.
use mathlib.Core.Path.{◌≡◌, refl, sym, ap, ◌∙◌, subst}
use mathlib.Core.Bool.{Bool, true, false, ◌&&◌, ◌||◌}
use Prim.Native.Nat.{ℕ, suc, ◌+◌, ◌*◌, ◌/◌, ◌^◌, ◌≤◌, ◌<◌}
use native.Mathlib.Nat.{le_trans, mul-pos, mul-le-mul_right, mul-le-mul, mul-lt-mul_of_pos_right, le_of_mul-le-mul_right, lt_of_mul-lt-mul_right, mul-div_cancel}
use native.Mathlib.Omega.{arith}
use lib.IntN.{ℤ, pos, negsuc}
use lib.Dec.{T, ltb, eqb}
use lib.Pow.{pow-add, pow_pos, pow-lt}
use lib.Ieee.{Float, nan, inf, fin, Format, emax, low, up, down, unlike, round, add, sub, mul, div, fits, le, lt}
use lib.Ieee.Fits.{down_pos}
use lib.Ieee.Exact.{HasValue}
use lib.Ieee.Scale.{grid, overflow, finite}
use borrow.Author.Tests.{lt-leb, ne_eqb, ltb-true, ltb-false, eqb-true}
use Rattle.lists.proofs.Bools.{by_cases, true_false}
use Rattle.floating.specs.Limits.{power, boundless, far}
use Rattle.floating.specs.Scaling.{lesser, greater}
use Rattle.floating.proofs.Units.{Held, held, round_value, round_upto}
use Rattle.floating.proofs.Heights.{height, over, lt_height}
use Rattle.floating.proofs.Roundings.{power_exact}
use Rattle.floating.proofs.Middle.{middle}
use Rattle.floating.proofs.Within.{Scaled, scaled}

-- ---- a float's sign and its number of units

abbrev pub sign_of : Float → Bool
sign_of nan = false
sign_of (inf s) = s
sign_of (fin s m e) = s

module _ (f : Format) where
  abbrev U : ℕ
  U = 2 ^ low f

  unit_pos : 0 < U
  unit_pos = pow_pos (low f)

  abbrev pub units_of : Float → ℕ
  units_of nan = 0
  units_of (inf s) = 0
  units_of (fin s m e) = m * up e * U / down e

  -- 2^60 in units, and a height that is far above it
  abbrev M : ℕ
  M = 2 ^ 60 * U

  abbrev B : ℕ
  B = 32 * M

  abbrev pub tall : Float → ℕ
  tall x = height B (sign_of x) (units_of x)

  -- a coordinate that the format holds and row 7 lets through
  pub record Good (x : Float) : Type 0 where
    pub value : HasValue x (sign_of x) (units_of x) U
    pub exact : grid f (units_of x) U ≡ units_of x
    pub small : units_of x ≤ M

  pub units_are : (s : Bool) (m : ℕ) (e : ℤ) (t : Bool) (a : ℕ) → HasValue (fin s m e) t a U → a ≡ units_of (fin s m e)
  units_are s m e t a h = sym (ap (λ (k : ℕ). k / down e) h.1 ∙ mul-div_cancel a (down_pos e))

  pub good : (x : Float) → T (fits f x) → boundless x ≡ false → Good x
  unfolding boundless
  good nan t h = true_false h
  good (inf s) t h = true_false h
  good (fin s m e) t h =
      let q : Held f (fin s m e) = held f (fin s m e) t tt in
      let i : q.size ≡ units_of (fin s m e) = units_are s m e q.sign q.size q.value in
      let v : m * up e * U ≡ units_of (fin s m e) * down e = q.value.1 ∙ ap (λ (k : ℕ). k * down e) i in
      let l : m * up e ≤ 2 ^ 60 * down e = ltb-false (2 ^ 60 * down e) (m * up e) h in
      let k : m * up e * U ≤ 2 ^ 60 * down e * U = mul-le-mul_right U l in
      record {
        value = (refl, v);
        exact = subst (λ (n : ℕ). grid f n U ≡ n) i q.exact;
        small = le_of_mul-le-mul_right (let z : units_of (fin s m e) * down e ≤ M * down e = omega arith in z) (down_pos e);
      }

  -- ---- the smaller and the larger of two

  lt_tall : (x y : Float) → Good x → Good y → lt x y ≡ ltb (tall x) (tall y)
  lt_tall x y a b = lt_height f B x y (sign_of x) (sign_of y) (units_of x) (units_of y) (omega (arith, a.small)) (omega (arith, b.small)) a.value b.value

  module _ (x y : Float) (a : Good x) (b : Good y) where
    pub lesser_good : Good (lesser x y)
    unfolding lesser
    lesser_good = by_cases (lt y x) (λ t. rw t b) (λ t. rw t a)

    pub lesser_left : tall (lesser x y) ≤ tall x
    unfolding lesser
    lesser_left = by_cases (lt y x) (λ t. rw t (let l : tall y < tall x = ltb-true (tall y) (tall x) (sym (lt_tall y x b a) ∙ t) in omega arith)) (λ t. rw t (omega arith))

    pub lesser_right : tall (lesser x y) ≤ tall y
    unfolding lesser
    lesser_right = by_cases (lt y x) (λ t. rw t (omega arith)) (λ t. rw t (ltb-false (tall y) (tall x) (sym (lt_tall y x b a) ∙ t)))

    pub greater_good : Good (greater x y)
    unfolding greater
    greater_good = by_cases (lt x y) (λ t. rw t b) (λ t. rw t a)

    pub greater_left : tall x ≤ tall (greater x y)
    unfolding greater
    greater_left = by_cases (lt x y) (λ t. rw t (let l : tall x < tall y = ltb-true (tall x) (tall y) (sym (lt_tall x y a b) ∙ t) in omega arith)) (λ t. rw t (omega arith))

    pub greater_right : tall y ≤ tall (greater x y)
    unfolding greater
    greater_right = by_cases (lt x y) (λ t. rw t (omega arith)) (λ t. rw t (ltb-false (tall x) (tall y) (sym (lt_tall x y a b) ∙ t)))

  -- ---- the quotient by a tolerance of 2^-30 at least

  pub record Tolerance (t : Float) : Type 0 where
    pub sign : Bool
    pub size : ℕ
    pub value : HasValue t sign size U
    pub least : U ≤ size * 2 ^ 30

  least_is : (n : ℕ) (d : ℤ) → (ltb (1 * 1 * down d) (n * up d * 2 ^ 30) || (eqb (1 * 1 * down d) (n * up d * 2 ^ 30) && true)) ≡ true → down d ≤ n * up d * 2 ^ 30
  least_is n d h = go (ltb (1 * 1 * down d) (n * up d * 2 ^ 30)) refl (eqb (1 * 1 * down d) (n * up d * 2 ^ 30)) refl h
    where
      go : (p : Bool) → ltb (1 * 1 * down d) (n * up d * 2 ^ 30) ≡ p → (q : Bool) → eqb (1 * 1 * down d) (n * up d * 2 ^ 30) ≡ q → (p || (q && true)) ≡ true → down d ≤ n * up d * 2 ^ 30
      go true e q g h = let z = ltb-true (1 * 1 * down d) (n * up d * 2 ^ 30) e in omega arith
      go false e true g h = let z = eqb-true (1 * 1 * down d) (n * up d * 2 ^ 30) g in omega arith
      go false e false g h = true_false (sym h)

  pub tolerance_of : (t : Float) → T (fits f t) → le (power (negsuc 29)) t ≡ true → T (finite t) → Tolerance t
  unfolding le
  tolerance_of nan c h z = absurd z
  tolerance_of (inf s) c h z = absurd z
  tolerance_of (fin true n d) c h z = true_false (sym h ∙ none (eqb (1 * 1 * down d) (n * up d * 2 ^ 30)) (1 * 1 * down d) (let y : 0 < down d = down_pos d in omega arith))
    where
      none : (q : Bool) (k : ℕ) → 0 < k → (q && eqb k 0) ≡ false
      none true k h = ne_eqb k 0 (λ e. omega arith)
      none false k h = refl
  tolerance_of (fin false n d) c h z =
      let q : Held f (fin false n d) = held f (fin false n d) c tt in
      let l : down d ≤ n * up d * 2 ^ 30 = least_is n d h in
      let k : down d * U ≤ n * up d * 2 ^ 30 * U = mul-le-mul_right U l in
      let v : n * up d * U ≡ q.size * down d = q.value.1 in
      let w : n * up d * U * 2 ^ 30 ≡ q.size * down d * 2 ^ 30 = ap (λ (i : ℕ). i * 2 ^ 30) v in
      record {
        sign = q.sign;
        size = q.size;
        value = q.value;
        least = le_of_mul-le-mul_right (let y : U * down d ≤ q.size * 2 ^ 30 * down d = omega arith in y) (down_pos d);
      }

  -- a float of at most 2^31 is below 2^53
  near_units : (x : Float) (s : Bool) (a : ℕ) → HasValue x s a U → a ≤ 2 ^ 31 * U → far x ≡ false
  unfolding far
  near_units nan s a h l = absurd h
  near_units (inf r) s a h l = absurd h
  near_units (fin r m e) s a h l =
      let v : m * up e * U ≡ a * down e = h.1 in
      let k : a * down e ≤ 2 ^ 31 * U * down e = mul-le-mul_right (down e) l in
      let p : 0 < U * down e = mul-pos unit_pos (down_pos e) in
      lt-leb (2 ^ 53 * down e) (m * up e) (lt_of_mul-lt-mul_right U (let z : m * up e * U < 2 ^ 53 * down e * U = omega arith in z))

  module _ (high : 65 < suc (emax f)) where
    overflow_is : overflow f ≡ U * 2 ^ suc (emax f)
    overflow_is = pow-add 2 (low f) (suc (emax f))

    fine : 32 * M < overflow f
    fine =
        let a : 2 ^ 65 < 2 ^ suc (emax f) = pow-lt high in
        let b : 2 ^ 65 * U < 2 ^ suc (emax f) * U = mul-lt-mul_of_pos_right a unit_pos in
        let c = overflow_is in
        omega arith

    pub quotient_near : (x t : Float) → Scaled f x → Tolerance t → far (div f x t) ≡ false
    quotient_near x t c q =
        let p : 0 < q.size = (let z = unit_pos in omega (arith, q.least)) in
        let e : 2 ^ (31 + low f) ≡ 2 ^ 31 * U = pow-add 2 31 (low f) in
        let o = fine in
        let u : 2 ^ 31 * U < overflow f = omega arith in
        let exact : grid f (2 ^ 31 * U) U ≡ 2 ^ 31 * U = subst (λ (k : ℕ). grid f k U ≡ k) e (power_exact f (31 + low f) (subst (λ (k : ℕ). k < overflow f) (sym e) u)) in
        let m : c.size * U ≤ 2 * U * (q.size * 2 ^ 30) = mul-le-mul c.most q.least in
        let g : grid f c.size q.size ≤ 2 ^ 31 * U = round_upto f c.size q.size (2 ^ 31 * U) p exact u (omega arith) in
        let sign = unlike c.sign q.sign in
        ap far (over f x t c.sign q.sign c.size q.size p c.value q.value)
        ∙ near_units (round f sign c.size q.size) sign (grid f c.size q.size) (round_value f sign c.size q.size (omega arith)) g

    pub axis :
        (l p g : Float)
        → Good l
        → Good p
        → Good g
        → tall l ≤ tall p
        → tall p ≤ tall g
        → Scaled f (mul f (power (pos 1)) (div f (sub f p (add f l (div f (sub f g l) (power (pos 1))))) (greater (sub f g l) (power (pos 0)))))
    axis l p g a b c h k =
        scaled f M B fine (omega arith) (omega arith) l p g (sign_of p) (units_of p) b.value b.small (tall l) (tall g) h k
        (middle f M B fine (omega arith) l g (sign_of l) (sign_of g) (units_of l) (units_of g)
        a.value c.value a.exact c.exact a.small c.small (le_trans h k))
