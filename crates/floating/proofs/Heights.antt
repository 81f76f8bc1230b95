-- Sums and differences of floats, as signed numbers of units. `height B s a` is a units above B, or below it where s is true: so
-- signed numbers are compared and added as numbers from 0. Assumes nothing.
use mathlib.Core.Path.{◌≡◌, refl, sym, ap, ◌∙◌, subst}
use mathlib.Core.Bool.{Bool, true, false, not, ◌&&◌, cond, beq}
use Prim.Native.Nat.{ℕ, ◌+◌, ◌-◌, ◌*◌, ◌^◌, ◌≤◌, ◌<◌}
use native.Mathlib.Nat.{mul-pos, mul-lt-mul_of_pos_right, lt_of_mul-lt-mul_right, le_of_mul-le-mul_right, mul-le-mul_right, mul_comm, mul-sub, eq_of_mul-eq-mul_right}
use native.Mathlib.Omega.{arith}
use lib.IntN.{ℤ, pos}
use lib.Dec.{ltb, eqb}
use lib.Pow.{pow_pos}
use lib.Ieee.{Float, nan, inf, fin, Format, low, up, down, unlike, neg, round, sum, add, sub, mul, div, below, lt}
use lib.Ieee.Fits.{down_pos}
use lib.Ieee.Exact.{HasValue}
use lib.Ieee.Scale.{round_same}
use borrow.Author.Tests.{lt-ltb, le-ltb, ltb-true, ltb-false, ne_eqb}
use Rattle.lists.proofs.Bools.{by_cases}
use Rattle.floating.specs.Limits.{power}

abbrev pub height : ℕ → Bool → ℕ → ℕ
height B false a = B + a
height B true a = B - a

sub_mul : (a b c : ℕ) → (a - b) * c ≡ a * c - b * c
sub_mul a b c = mul_comm (a - b) c ∙ mul-sub c a b ∙ ap (λ (x : ℕ). x - c * b) (mul_comm c a) ∙ ap (λ (x : ℕ). a * c - x) (mul_comm c b)

module _ (f : Format) where
  abbrev U : ℕ
  U = 2 ^ low f

  unit_pos : 0 < U
  unit_pos = pow_pos (low f)

  -- ---- the fractions of a sum, in units

  module _ (A B C a b : ℕ) (p : 0 < C) (x : A * U ≡ a * C) (y : B * U ≡ b * C) where
    lt_same : ltb A B ≡ ltb a b
    lt_same =
        by_cases (ltb a b)
        (λ t.
        let h : a * C < b * C = mul-lt-mul_of_pos_right (ltb-true a b t) p in
        lt-ltb A B (lt_of_mul-lt-mul_right U (let z : A * U < B * U = omega arith in z)) ∙ sym t)
        (λ t.
        let h : b * C ≤ a * C = mul-le-mul_right C (ltb-false a b t) in
        le-ltb A B (le_of_mul-le-mul_right (let z : B * U ≤ A * U = omega arith in z) unit_pos) ∙ sym t)

    minus_same : (A - B) * U ≡ (a - b) * C
    minus_same = sub_mul A B U ∙ ap (λ (n : ℕ). n - B * U) x ∙ ap (λ (n : ℕ). a * C - n) y ∙ sym (sub_mul a b C)

  sum_same : (s t : Bool) (A B C a b : ℕ) → 0 < C → A * U ≡ a * C → B * U ≡ b * C → sum f s A t B C ≡ sum f s a t b U
  unfolding sum
  sum_same s t A B C a b p x y =
      ap (λ (r : Float). cond (beq s t) r (cond (ltb A B) (round f t (B - A) C) (round f (s && ltb B A) (A - B) C)))
      (round_same f s (A + B) C (a + b) U p unit_pos (let z : (A + B) * U ≡ (a + b) * C = omega arith in z))
      ∙ ap (λ (r : Float). cond (beq s t) (round f s (a + b) U) r)
      (ap (λ (q : Bool). cond q (round f t (B - A) C) (round f (s && ltb B A) (A - B) C)) (lt_same A B C a b p x y)
      ∙ ap (λ (r : Float). cond (ltb a b) r (round f (s && ltb B A) (A - B) C)) (round_same f t (B - A) C (b - a) U p unit_pos (minus_same B A C b a p y x))
      ∙ ap (λ (q : Bool). cond (ltb a b) (round f t (b - a) U) (round f (s && q) (A - B) C)) (lt_same B A C b a p y x)
      ∙ ap (λ (r : Float). cond (ltb a b) (round f t (b - a) U) r) (round_same f (s && ltb b a) (A - B) C (a - b) U p unit_pos (minus_same A B C a b p x y)))

  first_value : (m : ℕ) (e d : ℤ) (a : ℕ) → m * up e * U ≡ a * down e → m * up e * down d * U ≡ a * (down e * down d)
  first_value m e d a h = let y : m * up e * U * down d ≡ a * down e * down d = ap (λ (i : ℕ). i * down d) h in omega arith

  second_value : (n : ℕ) (d e : ℤ) (b : ℕ) → n * up d * U ≡ b * down d → n * up d * down e * U ≡ b * (down e * down d)
  second_value n d e b k = let y : n * up d * U * down e ≡ b * down d * down e = ap (λ (i : ℕ). i * down e) k in omega arith

  add_is : (x y : Float) (s t : Bool) (a b : ℕ) → HasValue x s a U → HasValue y t b U → add f x y ≡ sum f s a t b U
  unfolding add
  add_is nan y s t a b h k = absurd h
  add_is (inf r) y s t a b h k = absurd h
  add_is (fin r m e) nan s t a b h k = absurd k
  add_is (fin r m e) (inf q) s t a b h k = absurd k
  add_is (fin r m e) (fin q n d) s t a b h k =
      sum_same r q (m * up e * down d) (n * up d * down e) (down e * down d) a b (mul-pos (down_pos e) (down_pos d))
      (first_value m e d a h.1)
      (second_value n d e b k.1)
      ∙ ap (λ (i : Bool). sum f i a q b U) h.0
      ∙ ap (λ (i : Bool). sum f s a i b U) k.0

  -- ---- a sum is the signed sum, rounded

  pub record Summed (v : Float) (s : Bool) (a : ℕ) (t : Bool) (b : ℕ) : Type 0 where
    pub sign : Bool
    pub size : ℕ
    pub is : v ≡ round f sign size U
    pub adds : (B : ℕ) → a + b ≤ B → height B sign size + B ≡ height B s a + height B t b
    pub most : size ≤ a + b

  summed : (s : Bool) (a : ℕ) (t : Bool) (b : ℕ) → Summed (sum f s a t b U) s a t b
  unfolding sum
  summed false a false b = record { sign = false; size = a + b; is = refl; adds = λ B h. omega arith; most = omega arith }
  summed true a true b = record { sign = true; size = a + b; is = refl; adds = λ B h. (let z : a + b ≤ B = h in omega arith); most = omega arith }
  summed false a true b =
      by_cases (ltb a b)
      (λ e. let l = ltb-true a b e in record { sign = true; size = b - a; is = rw e; adds = λ B h. (let z : a + b ≤ B = h in omega arith); most = omega arith })
      (λ e. let l = ltb-false a b e in record { sign = false; size = a - b; is = rw e; adds = λ B h. (let z : a + b ≤ B = h in omega arith); most = omega arith })
  summed true a false b =
      by_cases (ltb a b)
      (λ e. let l = ltb-true a b e in record { sign = false; size = b - a; is = rw e; adds = λ B h. (let z : a + b ≤ B = h in omega arith); most = omega arith })
      (λ e.
      let l = ltb-false a b e in
      by_cases (ltb b a)
      (λ g. let k = ltb-true b a g in record { sign = true; size = a - b; is = rw (e, g); adds = λ B h. (let z : a + b ≤ B = h in omega arith); most = omega arith })
      (λ g. let k = ltb-false b a g in record { sign = false; size = a - b; is = rw (e, g); adds = λ B h. (let z : a + b ≤ B = h in omega arith); most = omega arith }))

  pub plus : (x y : Float) (s t : Bool) (a b : ℕ) → HasValue x s a U → HasValue y t b U → Summed (add f x y) s a t b
  plus x y s t a b h k = subst (λ (v : Float). Summed v s a t b) (sym (add_is x y s t a b h k)) (summed s a t b)

  neg_value : (y : Float) (t : Bool) (b : ℕ) → HasValue y t b U → HasValue (neg y) (not t) b U
  unfolding neg
  neg_value nan t b k = k
  neg_value (inf q) t b k = k
  neg_value (fin q n d) t b k = (ap not k.0, k.1)

  pub minus : (x y : Float) (s t : Bool) (a b : ℕ) → HasValue x s a U → HasValue y t b U → Summed (sub f x y) s a (not t) b
  unfolding sub
  minus x y s t a b h k = plus x (neg y) s (not t) a b h (neg_value y t b k)

  -- ---- a quotient, and twice a number

  some_digits : (n d : ℕ) (b : ℕ) → 0 < b * d → n * U ≡ b * d → n ≡ 0 → ⊥
  some_digits n d b h e z = let k : n * U ≡ 0 = ap (λ (i : ℕ). i * U) z ∙ omega arith in omega arith

  pub over : (x y : Float) (s t : Bool) (a b : ℕ) → 0 < b → HasValue x s a U → HasValue y t b U → div f x y ≡ round f (unlike s t) a b
  unfolding div
  over nan y s t a b p h k = absurd h
  over (inf r) y s t a b p h k = absurd h
  over (fin r m e) nan s t a b p h k = absurd k
  over (fin r m e) (inf q) s t a b p h k = absurd k
  over (fin r m e) (fin q n d) s t a b p h k =
      let kx : n * up d * U ≡ b * down d = k.1 in
      let hx : m * up e * U ≡ a * down e = h.1 in
      let bd : 0 < b * down d = mul-pos p (down_pos d) in
      let nu : n * up d ≡ 0 → ⊥ = some_digits (n * up d) (down d) b bd kx in
      let nz : n ≡ 0 → ⊥ = λ z. nu (ap (λ (i : ℕ). i * up d) z ∙ omega arith) in
      let np : 0 < n * up d = (let z : n * up d ≡ 0 → ⊥ = nu in omega arith) in
      let same : m * up e * down d * b * U ≡ a * (n * up d * down e) * U =
      (let i : m * up e * U * (down d * b) ≡ a * down e * (down d * b) = ap (λ (j : ℕ). j * (down d * b)) hx in
      let j : n * up d * U * (a * down e) ≡ b * down d * (a * down e) = ap (λ (j : ℕ). j * (a * down e)) kx in
      omega arith) in
      ap (λ (i : Bool). cond i (cond (eqb m 0) nan (inf (unlike r q))) (round f (unlike r q) (m * up e * down d) (n * up d * down e))) (ne_eqb n 0 nz)
      ∙ round_same f (unlike r q) (m * up e * down d) (n * up d * down e) a b (mul-pos np (down_pos e)) p (eq_of_mul-eq-mul_right U unit_pos (m * up e * down d * b) (a * (n * up d * down e)) same)
      ∙ ap (λ (i : Bool). round f (unlike i q) a b) h.0
      ∙ ap (λ (i : Bool). round f (unlike s i) a b) k.0

  pub two_value : HasValue (power (pos 1)) false (2 * U) U
  two_value = (refl, omega arith)

  pub one_value : HasValue (power (pos 0)) false U U
  one_value = (refl, omega arith)

  pub twice : (x : Float) (s : Bool) (a : ℕ) → HasValue x s a U → mul f (power (pos 1)) x ≡ round f (unlike false s) (2 * a) U
  unfolding mul
  twice nan s a h = absurd h
  twice (inf r) s a h = absurd h
  twice (fin r m e) s a h =
      let hx : m * up e * U ≡ a * down e = h.1 in
      let p : 0 < 1 * down e = (let z : 0 < down e = down_pos e in omega arith) in
      let q : 1 * 2 ^ 1 * (m * up e) * U ≡ 2 * a * (1 * down e) = omega arith in
      round_same f (unlike false r) (1 * 2 ^ 1 * (m * up e)) (1 * down e) (2 * a) U p unit_pos q
      ∙ ap (λ (i : Bool). round f (unlike false i) (2 * a) U) h.0

  -- ---- comparison

  up_same : (B a b : ℕ) → ltb a b ≡ ltb (B + a) (B + b)
  up_same B a b =
      by_cases (ltb a b)
      (λ t. t ∙ sym (lt-ltb (B + a) (B + b) (let l = ltb-true a b t in omega arith)))
      (λ t. t ∙ sym (le-ltb (B + a) (B + b) (let l = ltb-false a b t in omega arith)))

  down_same : (B a b : ℕ) → a ≤ B → b ≤ B → ltb b a ≡ ltb (B - a) (B - b)
  down_same B a b p q =
      by_cases (ltb b a)
      (λ t. t ∙ sym (lt-ltb (B - a) (B - b) (let l = ltb-true b a t in omega arith)))
      (λ t. t ∙ sym (le-ltb (B - a) (B - b) (let l = ltb-false b a t in omega arith)))

  across : (B a b : ℕ) → a ≤ B → ltb 0 (a + b) ≡ ltb (B - a) (B + b)
  across B a b p =
      by_cases (ltb 0 (a + b))
      (λ t. t ∙ sym (lt-ltb (B - a) (B + b) (let l = ltb-true 0 (a + b) t in omega arith)))
      (λ t. t ∙ sym (le-ltb (B - a) (B + b) (let l = ltb-false 0 (a + b) t in omega arith)))

  module _ (B A D C a b : ℕ) (c : 0 < C) (x : A * U ≡ a * C) (y : D * U ≡ b * C) (p : a ≤ B) (q : b ≤ B) where
    none_same : ltb 0 (A + D) ≡ ltb 0 (a + b)
    none_same = lt_same 0 (A + D) C 0 (a + b) c (omega arith) (let z : (A + D) * U ≡ (a + b) * C = omega arith in z)

    below_height : (r u : Bool) → below r A u D ≡ ltb (height B r a) (height B u b)
    below_height false false = lt_same A D C a b c x y ∙ up_same B a b
    below_height false true = sym (le-ltb (B + a) (B - b) (omega arith))
    below_height true false = none_same ∙ across B a b p
    below_height true true = lt_same D A C b a c y x ∙ down_same B a b p q

  pub lt_height : (B : ℕ) (x y : Float) (s t : Bool) (a b : ℕ) → a ≤ B → b ≤ B → HasValue x s a U → HasValue y t b U → lt x y ≡ ltb (height B s a) (height B t b)
  unfolding lt
  lt_height B nan y s t a b p q h k = absurd h
  lt_height B (inf r) y s t a b p q h k = absurd h
  lt_height B (fin r m e) nan s t a b p q h k = absurd k
  lt_height B (fin r m e) (inf u) s t a b p q h k = absurd k
  lt_height B (fin r m e) (fin u n d) s t a b p q h k =
      below_height B (m * up e * down d) (n * up d * down e) (down e * down d) a b (mul-pos (down_pos e) (down_pos d)) (first_value m e d a h.1) (second_value n d e b k.1) p q r u
      ∙ ap (λ (i : Bool). ltb (height B i a) (height B u b)) h.0
      ∙ ap (λ (i : Bool). ltb (height B s a) (height B i b)) k.0
