-- Floats as numbers of a format's smallest value: what rounding gives, that it keeps the order, and that a float is its own
-- rounding. `HasValue x s a (2 ^ low f)` says that x is finite, has the sign s, and is a units in size. Assumes nothing.
use mathlib.Core.Path.{◌≡◌, refl, sym, ap, ◌∙◌, subst}
use mathlib.Core.Bool.{Bool, true, false, ◌&&◌, ◌||◌, cond, true≢false}
use Prim.Native.Nat.{ℕ, zero, suc, ◌+◌, ◌-◌, ◌*◌, ◌%◌, ◌^◌, ◌≤◌, ◌<◌}
use native.Mathlib.Nat.{le_of_eq, le_of_lt, le_of_mul-le-mul_right, lt_of_mul-lt-mul_right, eq_of_mul-eq-mul_right}
use native.Mathlib.Nat.{mul-lt-mul_of_pos_right}
use native.Mathlib.Omega.{arith}
use lib.IntN.{ℤ, pos, negsuc}
use lib.Dec.{T, leb, ltb, eqb, ltb→lt, leb→le, eqb→eq}
use borrow.Author.Tests.{le-ltb, ltb-true, ltb-false}
use Rattle.lists.proofs.Bools.{by_cases}
use lib.Pow.{pow-add, pow_pos, pow-lt}
use lib.Ieee.{Float, nan, inf, fin, Format, prec, emax, low, up, down, odd, round, units, le, fits}
use lib.Ieee.Fits.{round_is, down_pos, and_l, and_r}
use lib.Ieee.Exact.{HasValue, units_val, round_exact}
use lib.Ieee.Order.{drop, kept, transfer, round_mono}
use lib.Ieee.Scale.{grid, overflow, finite, round_val, round_under}

module _ (f : Format) where
  abbrev U : ℕ
  U = 2 ^ low f

  unit_pos : 0 < U
  unit_pos = pow_pos (low f)

  -- ---- a rounded fraction, with either sign

  pub round_value : (s : Bool) (a c : ℕ) → grid f a c < overflow f → HasValue (round f s a c) s (grid f a c) U
  round_value s a c h =
      subst (λ (z : Float). HasValue z s (grid f a c) U) (sym (round_is f s a c))
      (units_val f s (kept (prec f) (a * U) c) (drop (prec f) (a * U) c) h)

  -- ---- one float, one number of units

  same_units : (x : Float) (s t : Bool) (a b : ℕ) → HasValue x s a U → HasValue x t b U → a ≡ b
  same_units nan s t a b h k = absurd h
  same_units (inf r) s t a b h k = absurd h
  same_units (fin r m e) s t a b h k = eq_of_mul-eq-mul_right (down e) (down_pos e) a b (sym h.1 ∙ k.1)

  -- ---- order

  lt_or_eq : (a b : ℕ) → T (ltb a b || (eqb a b && true)) → a ≤ b
  lt_or_eq a b t = go (ltb a b) (eqb a b) (ltb→lt a b) (eqb→eq a b) t
    where
      go : (p q : Bool) → (T p → a < b) → (T q → a ≡ b) → T (p || (q && true)) → a ≤ b
      go true q h k t = le_of_lt (h tt)
      go false true h k t = le_of_eq (k tt)
      go false false h k t = absurd t

  units_of_le : (x y : Float) (a b : ℕ) → HasValue x false a U → HasValue y false b U → T (le x y) → a ≤ b
  unfolding le
  units_of_le nan y a b h k t = absurd h
  units_of_le (inf r) y a b h k t = absurd h
  units_of_le (fin true m e) y a b h k t = absurd (true≢false h.0)
  units_of_le (fin false m e) nan a b h k t = absurd k
  units_of_le (fin false m e) (inf r) a b h k t = absurd k
  units_of_le (fin false m e) (fin true n d) a b h k t = absurd (true≢false k.0)
  units_of_le (fin false m e) (fin false n d) a b h k t =
      le_of_mul-le-mul_right
      (transfer a b U U (m * up e) (n * up d) (down e) (down d) (down_pos e) (down_pos d) (sym h.1) (sym k.1) (lt_or_eq (m * up e * down d) (n * up d * down e) t))
      unit_pos

  -- what is too large for the format is an infinity, which is no more than no float
  too_large : (a b : ℕ) → overflow f ≤ grid f a b → round f false a b ≡ inf false
  unfolding units
  too_large a b h =
      round_is f false a b
      ∙ ap (λ (t : Bool). cond t (odd (suc (prec f)) false (kept (prec f) (a * U) b) (drop (prec f) (a * U) b) (low f)) (inf false)) (le-ltb (grid f a b) (overflow f) h)

  not_above : (y : Float) (b : ℕ) → HasValue y false b U → T (le (inf false) y) → ⊥
  unfolding le
  not_above nan b k t = k
  not_above (inf r) b k t = k
  not_above (fin r n d) b k t = t

  -- a smaller fraction rounds to no more units
  pub grid_le : (a b c d : ℕ) → 0 < b → 0 < d → a * d ≤ c * b → grid f c d < overflow f → grid f a b ≤ grid f c d
  grid_le a b c d p q h l =
      let y : HasValue (round f false c d) false (grid f c d) U = round_val f c d l in
      let t : T (le (round f false a b) (round f false c d)) = round_mono f a b c d p q h in
      by_cases (ltb (grid f a b) (overflow f))
      (λ e. units_of_le (round f false a b) (round f false c d) (grid f a b) (grid f c d) (round_val f a b (ltb-true (grid f a b) (overflow f) e)) y t)
      (λ e. absurd (not_above (round f false c d) (grid f c d) y (subst (λ (z : Float). T (le z (round f false c d))) (too_large a b (ltb-false (grid f a b) (overflow f) e)) t)))

  -- ---- a number of units with no more digits than the format keeps is its own rounding

  finite_value : (x : Float) (s : Bool) (a : ℕ) → HasValue x s a U → T (finite x)
  finite_value nan s a h = h
  finite_value (inf r) s a h = h
  finite_value (fin r m e) s a h = tt

  pub grid_exact : (q j : ℕ) → q < 2 ^ prec f → q * 2 ^ j < overflow f → grid f (q * 2 ^ j) U ≡ q * 2 ^ j
  grid_exact q j h l =
      let v : HasValue (round f false (q * 2 ^ j) U) false (q * 2 ^ j) U = round_exact f false (q * 2 ^ j) U q j unit_pos h l refl in
      same_units (round f false (q * 2 ^ j) U) false false (grid f (q * 2 ^ j) U) (q * 2 ^ j)
      (round_val f (q * 2 ^ j) U (round_under f (q * 2 ^ j) U (finite_value (round f false (q * 2 ^ j) U) false (q * 2 ^ j) v)))
      v

  -- so a fraction that is not above it, or not below it, does not round past it
  pub round_upto : (a c b : ℕ) → 0 < c → grid f b U ≡ b → b < overflow f → a * U ≤ b * c → grid f a c ≤ b
  round_upto a c b p e l h = subst (λ (z : ℕ). grid f a c ≤ z) e (grid_le a c b U p unit_pos h (subst (λ (z : ℕ). z < overflow f) (sym e) l))

  pub round_least : (a c b : ℕ) → 0 < c → grid f b U ≡ b → b * c ≤ a * U → grid f a c < overflow f → b ≤ grid f a c
  round_least a c b p e h l = subst (λ (z : ℕ). z ≤ grid f a c) e (grid_le b U a c unit_pos p h l)

  -- ---- a float that the format holds is a number of units, and its own rounding

  pub record Held (x : Float) : Type 0 where
    pub sign : Bool
    pub size : ℕ
    pub value : HasValue x sign size U
    pub exact : grid f size U ≡ size
    pub under : size < overflow f

  shift_up : (m k : ℕ) → m * 2 ^ k * U ≡ m * 2 ^ (k + low f) * 1
  shift_up m k = rw (pow-add 2 k (low f)) (omega arith)

  shift_down : (m k : ℕ) → suc k ≤ low f → m * 1 * U ≡ m * 2 ^ (low f - suc k) * 2 ^ suc k
  shift_down m k h =
      let e : U ≡ 2 ^ (low f - suc k) * 2 ^ suc k = ap (λ (n : ℕ). 2 ^ n) (let z : low f ≡ low f - suc k + suc k = omega arith in z) ∙ pow-add 2 (low f - suc k) (suc k) in
      ap (λ (n : ℕ). m * 1 * n) e ∙ omega arith

  exponent : (j l : ℕ) → 2 ^ j ≤ 2 ^ l → j ≤ l
  exponent j l h =
      by_cases (ltb l j)
      (λ t. absurd (let z : 2 ^ l < 2 ^ j = pow-lt (ltb-true l j t) in omega arith))
      (λ t. ltb-false l j t)

  reach : (m k : ℕ) (e : ℤ) → m * up e < 2 ^ suc (emax f) * down e → m * up e * U ≡ m * 2 ^ k * down e → m * 2 ^ k < overflow f
  reach m k e h v =
      lt_of_mul-lt-mul_right (down e)
      (let a : m * up e * U < 2 ^ suc (emax f) * down e * U = mul-lt-mul_of_pos_right h unit_pos in
      let b : overflow f ≡ U * 2 ^ suc (emax f) = pow-add 2 (low f) (suc (emax f)) in
      let c : overflow f * down e ≡ 2 ^ suc (emax f) * down e * U = ap (λ (n : ℕ). n * down e) b ∙ omega arith in
      omega arith)

  held_zero : (s : Bool) (e : ℤ) → Held (fin s 0 e)
  held_zero s e = record {
    sign = s;
    size = 0;
    value = (refl, omega arith);
    exact = grid_exact 0 0 (pow_pos (prec f)) (pow_pos (low f + suc (emax f)));
    under = pow_pos (low f + suc (emax f));
  }

  -- the digits m at the place k
  held_at : (s : Bool) (m k : ℕ) (e : ℤ) → m < 2 ^ prec f → m * up e < 2 ^ suc (emax f) * down e → m * up e * U ≡ m * 2 ^ k * down e → Held (fin s m e)
  held_at s m k e h l v =
      let u : m * 2 ^ k < overflow f = reach m k e l v in
      record { sign = s; size = m * 2 ^ k; value = (refl, v); exact = grid_exact m k h u; under = u }

  pub held : (x : Float) → T (fits f x) → T (finite x) → Held x
  unfolding fits
  held nan h t = absurd t
  held (inf s) h t = absurd t
  held (fin s zero e) h t = held_zero s e
  held (fin s (suc m) (pos k)) h t =
      let digits = eqb (suc m % 2) 1 && ltb (suc m) (2 ^ prec f) in
      let small = ltb (suc m * 2 ^ k) (2 ^ suc (emax f) * 1) in
      let d : T small = and_r (digits && leb 1 U) small h in
      let c : T digits = and_l digits (leb 1 U) (and_l (digits && leb 1 U) small h) in
      held_at s (suc m) (k + low f) (pos k)
      (ltb→lt (suc m) (2 ^ prec f) (and_r (eqb (suc m % 2) 1) (ltb (suc m) (2 ^ prec f)) c))
      (ltb→lt (suc m * 2 ^ k) (2 ^ suc (emax f) * 1) d)
      (shift_up (suc m) k)
  held (fin s (suc m) (negsuc k)) h t =
      let a : Bool = eqb (suc m % 2) 1 in
      let b : Bool = ltb (suc m) (2 ^ prec f) in
      let c : Bool = leb (2 ^ suc k) U in
      let d : Bool = ltb (suc m * 1) (2 ^ suc (emax f) * 2 ^ suc k) in
      let abc : T (a && b && c) = and_l (a && b && c) d h in
      held_at s (suc m) (low f - suc k) (negsuc k)
      (ltb→lt (suc m) (2 ^ prec f) (and_r a b (and_l (a && b) c abc)))
      (ltb→lt (suc m * 1) (2 ^ suc (emax f) * 2 ^ suc k) (and_r (a && b && c) d h))
      (shift_down (suc m) k (exponent (suc k) (low f) (leb→le (2 ^ suc k) U (and_r (a && b) c abc))))
