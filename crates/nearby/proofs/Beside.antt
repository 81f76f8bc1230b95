-- The cells of two points, axis by axis, at the width of a texture point or of a position. Assumes nothing.
use mathlib.Core.Path.{◌≡◌, refl, sym, ap, ◌∙◌, subst}
use mathlib.Core.Bool.{Bool, true, false, ◌&&◌, and-true}
use mathlib.Core.List.{List}
use Prim.Native.Nat.{ℕ, ◌+◌, ◌*◌, ◌≤◌, ◌<◌}
use native.Mathlib.Omega.{arith}
use lib.Dec.{eqb}
use lib.ListN.{length, get_or}
use borrow.Author.Tests.{eqb-true, eqb-false, eq-eqb}
use Rattle.lists.proofs.Bools.{by_cases}
use Rattle.mesh.specs.Limits.{point_width, texel_width}
use Rattle.floating.specs.Cells.{beside, besides}
use Rattle.floating.specs.Points.{row}
use Rattle.floating.proofs.Rows.{row_fits, row_two, row_three, three}
use Rattle.nearby.specs.Engine.{beside_at, Points}

-- tests one after the other: where the first holds, the second says what both say
pub and_then : {a b v : Bool} → a ≡ true → v ≡ b → v ≡ (a && b)
and_then p e = rw p e

pub and_else : {a v : Bool} (b : Bool) → a ≡ false → v ≡ a → v ≡ (a && b)
and_else b p e = rw p (e ∙ p)

regroup : (a b c : Bool) → (a && (b && c)) ≡ ((a && b) && c)
regroup true b c = refl
regroup false b c = refl

-- point i of n lies in the list
pub spot : (w n : ℕ) (cells : List ℕ) → Points w n cells → (i : ℕ) → i < n → w * i + w ≤ length cells
spot w n cells g i h = let e : w * i + w ≤ w * n = row_fits w i n h in omega (arith, g.long)

module _ (w n : ℕ) (cells : List ℕ) (g : Points w n cells) (i j : ℕ) (p : i < n) (q : j < n) where
  abbrev c : ℕ → ℕ
  c k = get_or cells k 0

  abbrev first : Bool
  first = beside (c (w * i)) (c (w * j))

  abbrev second : Bool
  second = beside (c (w * i + 1)) (c (w * j + 1))

  abbrev third : Bool
  third = beside (c (w * i + 2)) (c (w * j + 2))

  -- a texture point has two axes, a position or normal three
  at_two : w ≡ texel_width → beside_at w cells i j ≡ (first && (second && true))
  unfolding beside_at
  at_two e =
      subst (λ (k : ℕ). besides (row k cells i) (row k cells j) ≡ (beside (c (k * i)) (c (k * j)) && (beside (c (k * i + 1)) (c (k * j + 1)) && true))) (sym e)
      (rw (
        row_two 0 cells i (subst (λ (k : ℕ). k * i + k ≤ length cells) e (spot w n cells g i p)),
        row_two 0 cells j (subst (λ (k : ℕ). k * j + k ≤ length cells) e (spot w n cells g j q)),
      ))

  at_three : w ≡ point_width → beside_at w cells i j ≡ (first && (second && (third && true)))
  unfolding beside_at
  at_three e =
      subst
      (λ (k : ℕ).
      besides (row k cells i) (row k cells j)
      ≡ (beside (c (k * i)) (c (k * j)) && (beside (c (k * i + 1)) (c (k * j + 1)) && (beside (c (k * i + 2)) (c (k * j + 2)) && true)))) (sym e)
      (rw (
        row_three 0 cells i (subst (λ (k : ℕ). k * i + k ≤ length cells) e (spot w n cells g i p)),
        row_three 0 cells j (subst (λ (k : ℕ). k * j + k ≤ length cells) e (spot w n cells g j q)),
      ))

  either : (x : Bool) → (w ≡ texel_width → beside_at w cells i j ≡ x) → (w ≡ point_width → beside_at w cells i j ≡ x) → x ≡ beside_at w cells i j
  either x f h =
      by_cases (eqb w texel_width)
      (λ e. sym (f (eqb-true w texel_width e)))
      (λ e. sym (h (three w (eqb-false w texel_width e) g.least g.most)))

  -- where the code knows the first two tests together
  module _ (v : Bool) (e : v ≡ (first && second)) where
    grouped : (x : Bool) → (first && (second && x)) ≡ (v && x)
    grouped x = regroup first second x ∙ ap (λ (b : Bool). b && x) (sym e)

    pub apart : v ≡ false → v ≡ beside_at w cells i j
    apart h = h ∙ either false (λ k. at_two k ∙ grouped true ∙ rw h) (λ k. at_three k ∙ grouped (third && true) ∙ rw h)

    pub on_two : v ≡ true → w ≡ texel_width → eqb w texel_width ≡ beside_at w cells i j
    on_two h k = eq-eqb w texel_width k ∙ sym (at_two k ∙ grouped true ∙ rw h)

    pub on_three : v ≡ true → (w ≡ texel_width → ⊥) → third ≡ beside_at w cells i j
    on_three h k = sym (at_three (three w k g.least g.most) ∙ grouped (third && true) ∙ rw h (and-true third))

  pub apart_first : first ≡ false → false ≡ beside_at w cells i j
  apart_first e = either false (λ k. at_two k ∙ rw e) (λ k. at_three k ∙ rw e)

  pub apart_second : first ≡ true → second ≡ false → false ≡ beside_at w cells i j
  apart_second d e = either false (λ k. at_two k ∙ rw (d, e)) (λ k. at_three k ∙ rw (d, e))

  pub both_two : first ≡ true → second ≡ true → w ≡ texel_width → true ≡ beside_at w cells i j
  both_two d e k = sym (at_two k ∙ rw (d, e))

  pub by_third : first ≡ true → second ≡ true → (w ≡ texel_width → ⊥) → third ≡ beside_at w cells i j
  by_third d e k = sym (at_three (three w k g.least g.most) ∙ rw (d, e) (and-true third))
