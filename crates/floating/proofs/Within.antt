-- A scaled coordinate lies from -2 to 2: a coordinate's distance to the centre is no more than greatest - least, and the quotient by the
-- divisor no more than 1. Assumes nothing.
use mathlib.Core.Path.{◌≡◌, refl, sym, ap, ◌∙◌, subst}
use mathlib.Core.Bool.{Bool, true, false, not, cond}
use Prim.Native.Nat.{ℕ, suc, ◌+◌, ◌*◌, ◌^◌, ◌≤◌, ◌<◌}
use native.Mathlib.Nat.{mul-le-mul_right}
use native.Mathlib.Omega.{arith}
use lib.IntN.{pos}
use lib.Dec.{ltb}
use lib.Ieee.{Float, Format, low, unlike, add, sub, mul, div, lt}
use lib.Ieee.Exact.{HasValue}
use lib.Ieee.Scale.{grid, overflow}
use borrow.Author.Tests.{ltb-true, ltb-false}
use Rattle.lists.proofs.Bools.{by_cases}
use Rattle.floating.specs.Limits.{power}
use Rattle.floating.specs.Scaling.{greater}
use Rattle.floating.proofs.Units.{round_value, grid_le, round_upto}
use Rattle.floating.proofs.Heights.{height, Summed, minus, over, twice, one_value, lt_height}
use Rattle.floating.proofs.Roundings.{unit_pos, power_exact}
use Rattle.floating.proofs.Middle.{Middle, opposite}

module _ (f : Format) where
  abbrev U : ℕ
  U = 2 ^ low f

  -- a float from -2 to 2
  pub record Scaled (x : Float) : Type 0 where
    pub sign : Bool
    pub size : ℕ
    pub value : HasValue x sign size U
    pub most : size ≤ 2 * U

  -- ---- one axis: a coordinate p between least l and greatest g, as signed numbers of at most M units

  module _ (M B : ℕ) (fine : 32 * M < overflow f) (wide : 32 * M ≤ B) (unit-le : U ≤ M)
      (l p g : Float) (sp : Bool) (P : ℕ) (vp : HasValue p sp P U) (mp : P ≤ M) (hl hg : ℕ) (lp : hl ≤ height B sp P) (pg : height B sp P ≤ hg)
      (m : Middle f M B l g hl hg)
    where
      abbrev hp : ℕ
      hp = height B sp P

      -- greatest - least before and after it is rounded, and the centre
      abbrev X : ℕ
      X = m.span

      X_small : X ≤ 2 * M
      X_small = m.span_small

      abbrev W : ℕ
      W = grid f X U

      W_small : W ≤ 2 * X
      W_small = m.rounded

      abbrev C : ℕ
      C = m.centre

      abbrev hc : ℕ
      hc = height B m.centre_sign C

      abbrev centre : Float
      centre = add f l (div f (sub f g l) (power (pos 1)))

      -- the coordinate less the centre
      v : Summed f (sub f p centre) sp P (not m.centre_sign) C
      v = minus f p centre sp m.centre_sign P C vp m.centre_value

      E_most : (s : Bool) (x : ℕ) → height B s x + hc ≡ hp + B → x ≤ B → x ≤ X
      E_most false x e h = let a = m.above in let b = m.span_is in omega arith
      E_most true x e h = let a = m.below in let b = m.span_is in omega arith

      abbrev E : ℕ
      E = v.size

      E_small : E ≤ X
      E_small =
          let k = m.centre_small in
          let a : height B v.sign E + B ≡ hp + height B (not m.centre_sign) C = v.adds B (omega arith) in
          let b : height B (not m.centre_sign) C + hc ≡ B + B = opposite B m.centre_sign C (omega arith) in
          E_most v.sign E (omega arith) (omega (arith, v.most))

      abbrev A : ℕ
      A = grid f E U

      A_small : A ≤ W
      A_small = grid_le f E U X U (unit_pos f) (unit_pos f) (mul-le-mul_right U E_small) (let z = X_small in let y = W_small in omega arith)

      A_value : HasValue (sub f p centre) v.sign A U
      A_value =
          let z = X_small in
          let y = W_small in
          let x = A_small in
          subst (λ (x : Float). HasValue x v.sign A U) (sym v.is) (round_value f v.sign E U (omega arith))

      -- the divisor
      abbrev divides : Float
      divides = greater (sub f g l) (power (pos 0))

      record Divisor (x : Float) : Type 0 where
        pub sign : Bool
        pub size : ℕ
        pub value : HasValue x sign size U
        pub some : 0 < size
        pub most : W ≤ size

      d : Divisor divides
      unfolding greater
      d =
          let z = X_small in
          let y = W_small in
          let lt-is : lt (sub f g l) (power (pos 0)) ≡ ltb (height B m.sign W) (B + U) =
          lt_height f B (sub f g l) (power (pos 0)) m.sign false W U (omega arith) (omega arith) m.value (one_value f) in
          by_cases (ltb (height B m.sign W) (B + U))
          (λ t.
          subst Divisor (sym (ap (λ (i : Bool). cond i (power (pos 0)) (sub f g l)) (lt-is ∙ t)))
          (record { sign = false; size = U; value = one_value f; some = unit_pos f; most = lower m.sign refl (ltb-true (height B m.sign W) (B + U) t) }))
          (λ t.
          let k : U ≤ W = upper m.sign (ltb-false (height B m.sign W) (B + U) t) in
          subst Divisor (sym (ap (λ (i : Bool). cond i (power (pos 0)) (sub f g l)) (lt-is ∙ t)))
          (record { sign = m.sign; size = W; value = m.value; some = (let x = unit_pos f in omega arith); most = omega arith }))
        where
          lower : (s : Bool) → m.sign ≡ s → height B s W < B + U → W ≤ U
          lower false e h = omega arith
          lower true e h = let x : X ≡ 0 = m.span_zero e in let y = W_small in omega arith

          upper : (s : Bool) → B + U ≤ height B s W → U ≤ W
          upper false h = omega arith
          upper true h = let x = unit_pos f in omega arith

      -- the quotient, and twice that
      abbrev ratio : Float
      ratio = div f (sub f p centre) divides

      abbrev Q : ℕ
      Q = grid f A d.size

      unit_exact : grid f U U ≡ U
      unit_exact = power_exact f (low f) (omega arith)

      Q_small : Q ≤ U
      Q_small =
          round_upto f A d.size U d.some unit_exact (omega arith)
          (let h : A ≤ d.size = (let a = A_small in omega (arith, d.most)) in
          let k : A * U ≤ d.size * U = mul-le-mul_right U h in
          omega arith)

      Q_value : HasValue ratio (unlike v.sign d.sign) Q U
      Q_value =
          subst (λ (x : Float). HasValue x (unlike v.sign d.sign) Q U)
          (sym (over f (sub f p centre) divides v.sign d.sign A d.size d.some A_value d.value))
          (round_value f (unlike v.sign d.sign) A d.size (let z = Q_small in omega arith))

      pub scaled : Scaled (mul f (power (pos 1)) ratio)
      scaled =
          let s = unlike false (unlike v.sign d.sign) in
          let q = Q_small in
          let two-units : 2 ^ suc (low f) ≡ 2 * U = omega arith in
          let exact : grid f (2 * U) U ≡ 2 * U = subst (λ (k : ℕ). grid f k U ≡ k) two-units (power_exact f (suc (low f)) (omega arith)) in
          let twofold : 2 * Q ≤ 2 * U = omega arith in
          let most : grid f (2 * Q) U ≤ 2 * U = round_upto f (2 * Q) U (2 * U) (unit_pos f) exact (omega arith) (mul-le-mul_right U twofold) in
          record {
            sign = s;
            size = grid f (2 * Q) U;
            value =
                subst (λ (x : Float). HasValue x s (grid f (2 * Q) U) U)
                (sym (twice f ratio (unlike v.sign d.sign) Q Q_value)) (round_value f s (2 * Q) U (omega arith));
            most = most;
          }
