-- What is passed over in the order is not compared: out of reach on one axis, and all alike on the axes up to it, or rising from there
-- on. Assumes nothing.
use mathlib.Core.Path.{◌≡◌, sym, ap, ap₂, ◌∙◌, subst}
use mathlib.Core.Bool.{Bool, true, false}
use mathlib.Core.List.{List}
use Prim.Native.Nat.{ℕ, ◌+◌, ◌*◌, ◌≤◌, ◌<◌}
use native.Mathlib.Nat.{add-zero}
use native.Mathlib.Omega.{arith}
use lib.Dec.{eqb}
use lib.ListN.{get_or}
use borrow.Author.Tests.{eqb-true, eqb-false}
use Rattle.lists.proofs.Bools.{by_cases, true_false}
use Rattle.mesh.specs.Limits.{texel_width}
use Rattle.floating.specs.Cells.{beside}
use Rattle.floating.proofs.Rows.{three}
use Rattle.nearby.specs.Engine.{beside_at, Points}
use Rattle.nearby.proofs.Beside.{apart_first, apart_second, both_two, by_third}
use Rattle.cellwise.specs.Order.{cell_at, Alike}
use Rattle.cellwise.specs.Blocks.{EndOf, Tables}
use Rattle.inreach.specs.Reach.{Skipped}
use Rattle.paired.proofs.Both.{too_low, too_high, in_reach}

module _ (w n : ℕ) (cells : List ℕ) (g : Points w n cells) (i j : ℕ) (p : i < n) (q : j < n) where
  abbrev on : ℕ → Bool
  on a = beside (cell_at w cells a i) (cell_at w cells a j)

  -- the first axis is the place itself
  first_is : beside (get_or cells (w * i) 0) (get_or cells (w * j) 0) ≡ on 0
  first_is = ap₂ (λ (x y : ℕ). beside (get_or cells x 0) (get_or cells y 0)) (sym (add-zero (w * i))) (sym (add-zero (w * j)))

  -- out of reach on one axis
  pub apart : (a : ℕ) → a < w → on a ≡ false → beside_at w cells i j ≡ false
  apart a h e =
      by_cases (on 0)
      (λ x.
      by_cases (on 1)
      (λ y.
      by_cases (eqb a 2)
      (λ t.
      let f : a ≡ 2 = eqb-true a 2 t in
      sym (sym (subst (λ (b : ℕ). on b ≡ false) f e) ∙ by_third w n cells g i j p q (first_is ∙ x) y (λ k. absurd (omega arith))))
      (λ t.
      let f : a ≡ 2 → ⊥ = eqb-false a 2 t in
      by_cases (eqb a 0)
      (λ u. absurd (different (sym x ∙ sym (ap on (eqb-true a 0 u)) ∙ e)))
      (λ u. absurd (let v : a ≡ 0 → ⊥ = eqb-false a 0 u in let d : a ≡ 1 = omega (arith, g.most) in different (sym y ∙ sym (ap on d) ∙ e)))))
      (λ y. sym (apart_second w n cells g i j p q (first_is ∙ x) y)))
      (λ x. sym (apart_first w n cells g i j p q (first_is ∙ x)))
    where
      different : true ≡ false → ⊥
      different k = true_false k

  pub together_two : w ≡ texel_width → on 0 ≡ true → on 1 ≡ true → beside_at w cells i j ≡ true
  together_two e x y = sym (both_two w n cells g i j p q (first_is ∙ x) y e)

  pub together_three : (w ≡ texel_width → ⊥) → on 0 ≡ true → on 1 ≡ true → on 2 ≡ true → beside_at w cells i j ≡ true
  together_three e x y z = sym (by_third w n cells g i j p q (first_is ∙ x) y e) ∙ z

-- points of the same cells are compared with the same
module _ (w n : ℕ) (cells : List ℕ) (g : Points w n cells) (i j k : ℕ) (p : i < n) (q : j < n) (r : k < n) (same : Alike w cells w j k) where
  pub alike_beside : beside_at w cells i j ≡ true → beside_at w cells i k ≡ true
  alike_beside e =
      by_cases (eqb w texel_width)
      (λ t. let f : w ≡ texel_width = eqb-true w texel_width t in together_two w n cells g i k p r f (moved 0 (omega (arith, g.least))) (moved 1 (omega (arith, g.least))))
      (λ t.
      let f : w ≡ texel_width → ⊥ = eqb-false w texel_width t in
      let h : w ≡ 3 = three w f g.least g.most in
      together_three w n cells g i k p r f (moved 0 (omega arith)) (moved 1 (omega arith)) (moved 2 (omega arith)))
    where
      moved : (a : ℕ) → a < w → beside (cell_at w cells a i) (cell_at w cells a k) ≡ true
      moved a h =
          by_cases (beside (cell_at w cells a i) (cell_at w cells a j))
          (λ t. sym (ap (beside (cell_at w cells a i)) (same a h)) ∙ t)
          (λ t. true_false (sym e ∙ apart w n cells g i j p q a h t))

module _ {w n : ℕ} {cells order slabs rows runs : List ℕ} (t : Tables w n cells order slabs rows runs) {i q : ℕ} (p : i < n) (l : q < n) where
  abbrev c : ℕ → ℕ → ℕ
  c a x = cell_at w cells a x

  abbrev at : ℕ → ℕ
  at k = get_or order k 0

  point_in : (k : ℕ) → k < n → at k < n
  point_in k h = t.by_cell.below k h

  abbrev b : ℕ → Bool
  b = beside_at w cells i

  -- too low on the axis a: so are all that are alike up to it
  pub skip_low : (a k r : ℕ) → a < w → a < k → c a (at q) + 2 < c a i → EndOf w n k cells order q r → Skipped b order n q r
  skip_low a k r u m h e = record {
    onward = omega (arith, e.behind);
    inside = e.inside;
    none = λ d x y.
        let s : c a (at q) ≡ c a (at d) = e.alike d x y a m in
        let z : d < r = y in
        apart w n cells t.by_cell.points i (at d) p (point_in d (omega (arith, e.inside))) a u (too_low (c a i) (c a (at d)) (omega arith));
    here = λ f. absurd (let z : r ≡ q = f in omega (arith, e.behind));
  }

  -- too high on the axis a: so are all behind that are alike before it
  pub skip_high :
      (a r : ℕ) → a < w → c a i + 2 < c a (at q) → q < r → r ≤ n → ((k : ℕ) → q ≤ k → k < r → Alike w cells a (at q) (at k)) → Skipped b order n q r
  skip_high a r u h f m s = record {
    onward = omega arith;
    inside = m;
    none = λ k x y.
        let d : k < r = y in
        let z : c a (at q) ≤ c a (at k) = t.by_cell.rising q k a x (omega arith) u (s k x y) in
        apart w n cells t.by_cell.points i (at k) p (point_in k (omega arith)) a u (too_high (c a i) (c a (at k)) (omega arith));
    here = λ e. absurd (let z : r ≡ q = e in omega arith);
  }

  -- in reach on all axes
  pub skip_none : b (at q) ≡ true → Skipped b order n q q
  skip_none e = record { onward = omega arith; inside = omega arith; none = λ k x y. absurd (let u : q ≤ k = x in let v : k < q = y in omega arith); here = λ f. e }

  -- ---- the same of what was read: j is the point at q, x the cell of i on the axis a and u that of j

  module _ (a : ℕ) {j x u : ℕ} (h : a < w) (e : j ≡ at q) (ex : x ≡ c a i) (eu : u ≡ c a j) where
    cell_of : u ≡ c a (at q)
    cell_of = eu ∙ ap (c a) e

    pub low_to : {r : ℕ} (k s : ℕ) → a < k → u + 2 < x → r ≡ s → EndOf w n k cells order q s → Skipped b order n q r
    low_to k s m l f d = subst (Skipped b order n q) (sym f) (skip_low a k s h m (let z : u ≡ c a (at q) = cell_of in omega arith) d)

    pub high_to : {r : ℕ} (s : ℕ) → x + 2 < u → r ≡ s → EndOf w n a cells order q s → Skipped b order n q r
    high_to s l f d =
        subst (Skipped b order n q) (sym f)
        (skip_high a s h (let z : u ≡ c a (at q) = cell_of in omega arith) d.behind d.inside d.alike)

    -- on the first axis nothing need be alike
    pub high_all : a ≡ 0 → x + 2 < u → Skipped b order n q n
    high_all z m =
        skip_high a n h (let y : u ≡ c a (at q) = cell_of in omega arith) l (omega arith)
        (λ k f g d v. absurd (let y : d < a = v in omega arith))

    pub reached : x ≤ u + 2 → u ≤ x + 2 → beside (c a i) (c a (at q)) ≡ true
    reached l m = in_reach (c a i) (c a (at q)) (let z : u ≡ c a (at q) = cell_of in omega arith) (let z : u ≡ c a (at q) = cell_of in omega arith)

  pub here_two : w ≡ texel_width → beside (c 0 i) (c 0 (at q)) ≡ true → beside (c 1 i) (c 1 (at q)) ≡ true → Skipped b order n q q
  here_two e x y = skip_none (together_two w n cells t.by_cell.points i (at q) p (point_in q l) e x y)

  pub here_three :
      (w ≡ texel_width → ⊥) → beside (c 0 i) (c 0 (at q)) ≡ true → beside (c 1 i) (c 1 (at q)) ≡ true → beside (c 2 i) (c 2 (at q)) ≡ true
      → Skipped b order n q q
  here_three e x y z = skip_none (together_three w n cells t.by_cell.points i (at q) p (point_in q l) e x y z)
