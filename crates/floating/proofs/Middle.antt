-- The middle of one axis: greatest - least is a number of units, and the centre lies between least and greatest, since rounding keeps the
-- order. Assumes nothing.
use mathlib.Core.Path.{◌≡◌, refl, sym, subst}
use mathlib.Core.Bool.{Bool, true, false, not, true≢false}
use Prim.Native.Nat.{ℕ, ◌+◌, ◌*◌, ◌^◌, ◌≤◌, ◌<◌}
use native.Mathlib.Omega.{arith}
use lib.IntN.{pos}
use lib.Ieee.{Float, Format, low, unlike, add, sub, div}
use lib.Ieee.Exact.{HasValue}
use lib.Ieee.Scale.{grid, overflow}
use Rattle.floating.specs.Limits.{power}
use Rattle.floating.proofs.Units.{round_value}
use Rattle.floating.proofs.Heights.{height, Summed, plus, minus, over, two_value}
use Rattle.floating.proofs.Roundings.{unit_pos, rounds, halves, not_over, not_under}

-- a number and its opposite
pub opposite : (B : ℕ) (s : Bool) (a : ℕ) → a ≤ B → height B (not s) a + height B s a ≡ B + B
opposite B false a h = omega arith
opposite B true a h = omega arith

-- greatest - least before it is rounded, in units, and as a float; and the centre; with hl and hg the heights of least and greatest
pub record Middle (f : Format) (M B : ℕ) (l g : Float) (hl hg : ℕ) : Type 0 where
  pub span : ℕ
  pub span_small : span ≤ 2 * M
  pub span_is : hl + span ≡ hg
  pub sign : Bool
  pub span_zero : sign ≡ true → span ≡ 0
  pub rounded : grid f span (2 ^ low f) ≤ 2 * span
  pub value : HasValue (sub f g l) sign (grid f span (2 ^ low f)) (2 ^ low f)
  pub centre_sign : Bool
  pub centre : ℕ
  pub centre_small : centre ≤ 6 * M
  pub centre_value : HasValue (add f l (div f (sub f g l) (power (pos 1)))) centre_sign centre (2 ^ low f)
  pub above : hl ≤ height B centre_sign centre
  pub below : height B centre_sign centre ≤ hg

-- least l and greatest g, as signed numbers of at most M units
module _ (f : Format) (M B : ℕ) (fine : 32 * M < overflow f) (wide : 32 * M ≤ B)
    (l g : Float) (sl sg : Bool) (L G : ℕ) (vl : HasValue l sl L (2 ^ low f)) (vg : HasValue g sg G (2 ^ low f))
    (el : grid f L (2 ^ low f) ≡ L) (eg : grid f G (2 ^ low f) ≡ G) (ml : L ≤ M) (mg : G ≤ M)
    (lg : height B sl L ≤ height B sg G)
  where
    abbrev U : ℕ
    U = 2 ^ low f

    abbrev hl : ℕ
    hl = height B sl L

    abbrev hg : ℕ
    hg = height B sg G

    -- greatest - least
    w : Summed f (sub f g l) sg G (not sl) L
    w = minus f g l sg sl G L vg vl

    w_height : height B w.sign w.size + hl ≡ hg + B
    w_height =
        let a : height B w.sign w.size + B ≡ hg + height B (not sl) L = w.adds B (omega arith) in
        let b : height B (not sl) L + hl ≡ B + B = opposite B sl L (omega arith) in
        omega arith

    w_is : (s : Bool) (x : ℕ) → height B s x + hl ≡ hg + B → x ≤ B → hl + x ≡ hg
    w_is false x e h = omega arith
    w_is true x e h = omega arith

    w_zero : (s : Bool) (x : ℕ) → height B s x + hl ≡ hg + B → x ≤ B → s ≡ true → x ≡ 0
    w_zero false x e h t = absurd (true≢false (sym t))
    w_zero true x e h t = omega arith

    abbrev X : ℕ
    X = w.size

    X_small : X ≤ 2 * M
    X_small = omega (arith, w.most)

    X_is : hl + X ≡ hg
    X_is = w_is w.sign X w_height (let z = X_small in omega arith)

    X_zero : w.sign ≡ true → X ≡ 0
    X_zero = w_zero w.sign X w_height (let z = X_small in omega arith)

    abbrev W : ℕ
    W = grid f X U

    W_small : W ≤ 2 * X
    W_small = rounds f X (let z = X_small in omega arith)

    W_value : HasValue (sub f g l) w.sign W U
    W_value = subst (λ (x : Float). HasValue x w.sign W U) (sym w.is) (round_value f w.sign X U (let z = X_small in let y = W_small in omega arith))

    -- half of it
    abbrev H : ℕ
    H = grid f W (2 * U)

    H_small : H ≤ X
    H_small = halves f X (let z = X_small in omega arith)

    abbrev half : Float
    half = div f (sub f g l) (power (pos 1))

    H_value : HasValue half (unlike w.sign false) H U
    H_value =
        subst (λ (x : Float). HasValue x (unlike w.sign false) H U)
        (sym (over f (sub f g l) (power (pos 1)) w.sign false W (2 * U) (let z = unit_pos f in omega arith) W_value (two_value f)))
        (round_value f (unlike w.sign false) W (2 * U) (let z = X_small in let y = H_small in omega arith))

    H_height : height B (unlike w.sign false) H ≡ B + H
    H_height = go w.sign refl
      where
        go : (s : Bool) → w.sign ≡ s → height B (unlike s false) H ≡ B + H
        go false e = refl
        go true e = let z : X ≡ 0 = X_zero e in let y = H_small in omega arith

    -- the centre
    c : Summed f (add f l half) sl L (unlike w.sign false) H
    c = plus f l half sl (unlike w.sign false) L H vl H_value

    abbrev D : ℕ
    D = c.size

    D_small : D ≤ 3 * M
    D_small = let z = X_small in let y = H_small in omega (arith, c.most)

    c_height : height B c.sign D ≡ hl + H
    c_height =
        let z = X_small in
        let y = H_small in
        let a : height B c.sign D + B ≡ hl + height B (unlike w.sign false) H = c.adds B (omega arith) in
        let b = H_height in
        omega arith

    abbrev C : ℕ
    C = grid f D U

    C_small : C ≤ 2 * D
    C_small = rounds f D (let z = D_small in omega arith)

    C_value : HasValue (add f l half) c.sign C U
    C_value = subst (λ (x : Float). HasValue x c.sign C U) (sym c.is) (round_value f c.sign D U (let z = D_small in let y = C_small in omega arith))

    abbrev hc : ℕ
    hc = height B c.sign C

    centre_above : hl ≤ hc
    centre_above =
        not_under f B c.sign D sl L el (let z : L ≤ M = ml in omega arith) (let z = D_small in omega arith) (omega arith) (let z = D_small in omega arith)
        (let z = c_height in omega arith)

    centre_below : hc ≤ hg
    centre_below =
        not_over f B c.sign D sg G eg (let z : G ≤ M = mg in omega arith) (let z = D_small in omega arith) (omega arith) (let z = D_small in omega arith)
        (let z = c_height in let y = X_is in let x = H_small in omega arith)

    pub middle : Middle f M B l g hl hg
    middle = record {
      span = X;
      span_small = X_small;
      span_is = X_is;
      sign = w.sign;
      span_zero = X_zero;
      rounded = W_small;
      value = W_value;
      centre_sign = c.sign;
      centre = C;
      centre_small = (let z = D_small in let y = C_small in omega arith);
      centre_value = C_value;
      above = centre_above;
      below = centre_below;
    }
