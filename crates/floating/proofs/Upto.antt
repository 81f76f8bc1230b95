-- How large the results of sums, differences, quotients and products can become: a float of at most c units, where c is a number of
-- units that the format holds, stays so when it is rounded. So nothing here becomes infinite or no number. Assumes nothing.
use mathlib.Core.Path.{◌≡◌, refl, sym, ap, ◌∙◌, subst}
use mathlib.Core.Bool.{Bool, true, false, not}
use Prim.Native.Nat.{ℕ, suc, ◌+◌, ◌*◌, ◌^◌, ◌≤◌, ◌<◌}
use native.Mathlib.Nat.{zero-add, le_of_eq, mul_assoc, mul_comm, mul-one, one-mul, mul-pos, mul-le-mul, mul-le-mul_right, mul-lt-mul_of_pos_right, le_trans, lt_of_le_of_lt}
use native.Mathlib.Omega.{arith}
use lib.IntN.{pos}
use lib.Dec.{lit<}
use lib.Pow.{pow-add, pow_pos, pow_mono, pow-lt}
use lib.Ieee.{Float, nan, inf, fin, Format, prec, emax, low, up, down, unlike, round, add, sub, mul, div, of_int}
use lib.Ieee.Fits.{down_pos}
use lib.Ieee.Exact.{HasValue}
use lib.Ieee.Scale.{round_same, grid, overflow, finite}
use Rattle.floating.proofs.Units.{round_value, grid_exact, round_upto, round_least}
use Rattle.floating.proofs.Heights.{Summed, plus, minus, over}

module _ (f : Format) where
  abbrev U : ℕ
  U = 2 ^ low f

  unit_pos : 0 < U
  unit_pos = pow_pos (low f)

  -- a number of units that the format holds
  pub record Exact (c : ℕ) : Type 0 where
    pub own : grid f c U ≡ c
    pub under : c < overflow f

  -- a finite float of at most c units
  pub record Upto (c : ℕ) (x : Float) : Type 0 where
    pub sign : Bool
    pub size : ℕ
    pub value : HasValue x sign size U
    pub most : size ≤ c

  pub upto_finite : (c : ℕ) (x : Float) → Upto c x → finite x ≡ true
  upto_finite c nan h = absurd h.value
  upto_finite c (inf s) h = absurd h.value
  upto_finite c (fin s m e) h = refl

  pub upto_more : (c d : ℕ) (x : Float) → c ≤ d → Upto c x → Upto d x
  upto_more c d x l h = record { sign = h.sign; size = h.size; value = h.value; most = le_trans h.most l }

  rounded : (s : Bool) (a d c : ℕ) → 0 < d → Exact c → a * U ≤ c * d → Upto c (round f s a d)
  rounded s a d c p e h =
      let g : grid f a d ≤ c = round_upto f a d c p e.own e.under h in
      record { sign = s; size = grid f a d; value = round_value f s a d (omega (arith, e.under)); most = g }

  -- ---- one operation

  module _ (a b c : ℕ) (x y : Float) (h : Upto a x) (k : Upto b y) (e : Exact c) where
    pub upto_sum : a + b ≤ c → Upto c (add f x y)
    upto_sum l =
        let q : Summed f (add f x y) h.sign h.size k.sign k.size = plus f x y h.sign k.sign h.size k.size h.value k.value in
        subst (Upto c) (sym q.is) (rounded q.sign q.size U c unit_pos e (mul-le-mul_right U (omega (arith, q.most, h.most, k.most))))

    pub upto_difference : a + b ≤ c → Upto c (sub f x y)
    upto_difference l =
        let q : Summed f (sub f x y) h.sign h.size (not k.sign) k.size = minus f x y h.sign k.sign h.size k.size h.value k.value in
        subst (Upto c) (sym q.is) (rounded q.sign q.size U c unit_pos e (mul-le-mul_right U (omega (arith, q.most, h.most, k.most))))

  times : (x y : Float) (s t : Bool) (a b : ℕ) → HasValue x s a U → HasValue y t b U → mul f x y ≡ round f (unlike s t) (a * b) (U * U)
  unfolding mul
  times nan y s t a b h k = absurd h
  times (inf r) y s t a b h k = absurd h
  times (fin r m e) nan s t a b h k = absurd k
  times (fin r m e) (inf q) s t a b h k = absurd k
  times (fin r m e) (fin q n d) s t a b h k =
      let hx : m * up e * U ≡ a * down e = h.1 in
      let kx : n * up d * U ≡ b * down d = k.1 in
      let same : m * up e * (n * up d) * (U * U) ≡ a * b * (down e * down d) =
      (let i : m * up e * U * (n * up d * U) ≡ a * down e * (n * up d * U) = ap (λ (j : ℕ). j * (n * up d * U)) hx in
      let j : a * down e * (n * up d * U) ≡ a * down e * (b * down d) = ap (λ (j : ℕ). a * down e * j) kx in
      omega arith) in
      round_same f (unlike r q) (m * up e * (n * up d)) (down e * down d) (a * b) (U * U) (mul-pos (down_pos e) (down_pos d)) (mul-pos unit_pos unit_pos) same
      ∙ ap (λ (i : Bool). round f (unlike i q) (a * b) (U * U)) h.0
      ∙ ap (λ (i : Bool). round f (unlike s i) (a * b) (U * U)) k.0

  module _ (a b c : ℕ) (x y : Float) (h : Upto a x) (k : Upto b y) (e : Exact c) where
    pub upto_product : a * b ≤ c * U → Upto c (mul f x y)
    upto_product l =
        let m : h.size * k.size ≤ a * b = mul-le-mul h.most k.most in
        let n : h.size * k.size ≤ c * U = le_trans m l in
        let o : h.size * k.size * U ≤ c * U * U = mul-le-mul_right U n in
        subst (Upto c) (sym (times x y h.sign k.sign h.size k.size h.value k.value))
        (rounded (unlike h.sign k.sign) (h.size * k.size) (U * U) c (mul-pos unit_pos unit_pos) e (omega arith))

  -- a quotient by a float that is not below 1
  pub record Least1 (y : Float) : Type 0 where
    pub sign : Bool
    pub size : ℕ
    pub value : HasValue y sign size U
    pub least : U ≤ size

  pub upto_quotient : (c : ℕ) (x y : Float) → Upto c x → Exact c → Least1 y → Upto c (div f x y)
  upto_quotient c x y h e k =
      let p : 0 < k.size = (let z = unit_pos in omega (arith, k.least)) in
      subst (Upto c) (sym (over f x y h.sign k.sign h.size k.size p h.value k.value))
      (rounded (unlike h.sign k.sign) h.size k.size c p e (mul-le-mul h.most k.least))

  -- ---- numbers with few digits

  module _ (high : 174 < suc (emax f)) (wide : 24 ≤ prec f) where
    pub exact_at : (q j : ℕ) → q < 2 ^ 24 → j ≤ 150 → Exact (q * 2 ^ (j + low f))
    exact_at q j h l =
        let digits : 2 ^ 24 ≤ 2 ^ prec f = pow_mono wide in
        let small : q * 2 ^ (j + low f) < overflow f =
        (let a : q * 2 ^ (j + low f) ≡ q * 2 ^ j * U = ap (λ (n : ℕ). q * n) (pow-add 2 j (low f)) ∙ sym (mul_assoc q (2 ^ j) U) in
        let b : overflow f ≡ 2 ^ suc (emax f) * U = pow-add 2 (low f) (suc (emax f)) ∙ mul_comm U (2 ^ suc (emax f)) in
        let c : 2 ^ j ≤ 2 ^ 150 = pow_mono l in
        let d : 2 ^ 174 < 2 ^ suc (emax f) = pow-lt high in
        let g : q * 2 ^ j ≤ 2 ^ 24 * 2 ^ 150 = mul-le-mul (let z : q ≤ 2 ^ 24 = omega arith in z) c in
        let i : q * 2 ^ j < 2 ^ suc (emax f) = lt_of_le_of_lt g d in
        let k : q * 2 ^ j * U < 2 ^ suc (emax f) * U = mul-lt-mul_of_pos_right i unit_pos in
        omega (arith, a, b, k)) in
        record { own = grid_exact f q (j + low f) (omega arith) small; under = small }

    exact_units : (n : ℕ) → n < 2 ^ 24 → Exact (n * U)
    exact_units n h = subst (λ (i : ℕ). Exact (n * 2 ^ i)) (zero-add (low f)) (exact_at n 0 h (omega arith))

    -- a count, as a float
    pub counted_least : (n : ℕ) → 1 ≤ n → n < 2 ^ 24 → Least1 (of_int f (pos n))
    unfolding of_int
    counted_least n l h =
        let e : Exact (n * U) = exact_units n h in
        let one : Exact (1 * U) = exact_units 1 (lit< tt) in
        let g : grid f n 1 ≤ n * U = round_upto f n 1 (n * U) (omega arith) e.own e.under (le_of_eq (sym (mul-one (n * U)))) in
        let s : grid f n 1 < overflow f = lt_of_le_of_lt g e.under in
        let m : 1 * U * 1 ≤ n * U = subst (λ (k : ℕ). k ≤ n * U) (sym (mul-one (1 * U))) (mul-le-mul_right U l) in
        let k : 1 * U ≤ grid f n 1 = round_least f n 1 (1 * U) (omega arith) one.own m s in
        record { sign = false; size = grid f n 1; value = round_value f false n 1 s; least = subst (λ (i : ℕ). i ≤ grid f n 1) (one-mul U) k }
