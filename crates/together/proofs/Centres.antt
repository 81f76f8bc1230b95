-- The centre of a group and its representative, a point at a time, at either width. Assumes nothing.
use mathlib.Core.Path.{◌≡◌, refl, sym, ap, ◌∙◌, subst}
use mathlib.Core.Bool.{Bool, true, false, cond}
use mathlib.Core.List.{List, [], ◌∷◌, map}
use Prim.Native.Nat.{ℕ, zero, suc, ◌+◌, ◌-◌, ◌≤◌, ◌<◌}
use native.Mathlib.Omega.{arith}
use native.Mathlib.Numerals.{add-one}
use lib.IntN.{pos}
use lib.ListN.{get_or, replicate}
use lib.Seq.{slice, slice_empty, slice-cons, length-slice}
use lib.Ieee.{Float, binary64, add, div, lt, of_bits, of_int}
use Rattle.floating.specs.Points.{point, leading, row}
use Rattle.floating.specs.Scaling.{axes1, axes2}
use Rattle.floating.specs.Near.{nought, squared}
use Rattle.floating.specs.declared.Point.{Point}
use Rattle.floating.proofs.Literals.{nought_is}
use Rattle.together.specs.Centre.{added, sum_from, counted, centre_of, Best, best, closer, closest, representative}
use Rattle.together.specs.Working.{Grouped}

-- ---- points of three numbers, of which a width takes the first

pub leading_plus : (p q : Point) (w : ℕ) → leading w (axes2 (add binary64) p q) ≡ added (leading w p) (leading w q)
unfolding added
leading_plus p q zero = refl
leading_plus p q (suc zero) = refl
leading_plus p q (suc (suc zero)) = refl
leading_plus p q (suc (suc (suc zero))) = refl
leading_plus p q (suc (suc (suc (suc w)))) = refl

pub leading_over : (p : Point) (f : Float → Float) (w : ℕ) → leading w (axes1 f p) ≡ map f (leading w p)
leading_over p f zero = refl
leading_over p f (suc zero) = refl
leading_over p f (suc (suc zero)) = refl
leading_over p f (suc (suc (suc zero))) = refl
leading_over p f (suc (suc (suc (suc w)))) = refl

pub leading_none : (w : ℕ) → w ≤ 3 → leading w (point (of_bits binary64 0) (of_bits binary64 0) (of_bits binary64 0)) ≡ replicate w nought
leading_none w h = rw nought_is (go w h)
  where
    go : (w : ℕ) → w ≤ 3 → leading w (point nought nought nought) ≡ replicate w nought
    go zero h = refl
    go (suc zero) h = refl
    go (suc (suc zero)) h = refl
    go (suc (suc (suc zero))) h = refl
    go (suc (suc (suc (suc w)))) h = absurd (let z : suc (suc (suc (suc w))) ≤ 3 = h in omega arith)

-- ---- the group at the places from `from` to below `to`

module _ (w n : ℕ) (s : List Float) (order : List ℕ) (from to : ℕ) (g : Grouped w n s order from to) where
  abbrev group : List ℕ
  group = slice from to order

  abbrev here : ℕ → ℕ
  here k = get_or order k 0

  pub next : (k : ℕ) → k < to → slice k to order ≡ here k ∷ slice (k + 1) to order
  next k h = slice-cons k to order 0 h g.room ∙ ap (λ (j : ℕ). here k ∷ slice j to order) (sym (add-one k))

  pub last : (k : ℕ) → to ≤ k → k ≤ to → slice k to order ≡ []
  last k a b = let e : k ≡ to = omega arith in ap (λ (j : ℕ). slice j to order) e ∙ slice_empty to order

-- ---- the sum, where the points before k are added already

pub record Summing (w : ℕ) (s : List Float) (order : List ℕ) (from to k : ℕ) (sum : Point) : Type 0 where
  pub upto : k ≤ to
  pub rest : sum_from w s (leading w sum) (slice k to order) ≡ sum_from w s (replicate w nought) (slice from to order)

module _ (w n : ℕ) (s : List Float) (order : List ℕ) (from to : ℕ) (g : Grouped w n s order from to) where
  pub sum_begins : Summing w s order from to from (point (of_bits binary64 0) (of_bits binary64 0) (of_bits binary64 0))
  sum_begins = record { upto = omega (arith, g.some); rest = ap (λ (a : List Float). sum_from w s a (slice from to order)) (leading_none w g.most) }

  pub sum_turns :
      (k : ℕ) (sum p sum' : Point)
      → k < to
      → leading w p ≡ row w s (get_or order k 0)
      → sum' ≡ axes2 (add binary64) sum p
      → Summing w s order from to k sum
      → Summing w s order from to (k + 1) sum'
  unfolding sum_from
  sum_turns k sum p sum' h e f i = record {
    upto = omega arith;
    rest =
        ap (λ (q : Point). sum_from w s (leading w q) (slice (k + 1) to order)) f
        ∙ ap (λ (a : List Float). sum_from w s a (slice (k + 1) to order)) (leading_plus sum p w ∙ ap (added (leading w sum)) e)
        ∙ sym (ap (sum_from w s (leading w sum)) (next w n s order from to g k h))
        ∙ i.rest;
  }

  pub sum_ends :
      (k : ℕ) (sum q : Point) (d : Float)
      → to ≤ k
      → d ≡ of_int binary64 (pos (to - from))
      → q ≡ axes1 (λ x. div binary64 x d) sum
      → Summing w s order from to k sum
      → leading w q ≡ centre_of w s (slice from to order)
  unfolding centre_of sum_from
  sum_ends k sum q d h e f i =
      ap (leading w) f
      ∙ leading_over sum (λ x. div binary64 x d) w
      ∙ ap (λ (y : Float). map (λ x. div binary64 x y) (leading w sum)) (e ∙ ap (λ (m : ℕ). of_int binary64 (pos m)) (sym (length-slice from to order g.room)))
      ∙ ap (map (λ x. div binary64 x (counted (slice from to order)))) (sym (ap (sum_from w s (leading w sum)) (last w n s order from to g k h i.upto)) ∙ i.rest)

-- ---- the representative, where the points before k were looked at

pub record Choosing (w n : ℕ) (s : List Float) (order : List ℕ) (from to : ℕ) (c : Point) (k : ℕ) (least : Float) (rep : ℕ) : Type 0 where
  pub upto : k ≤ to
  pub small : rep < n
  pub rest : representative w s (slice from to order) ≡ (closest w s (leading w c) (best least rep) (slice k to order)).index

module _ (w n : ℕ) (s : List Float) (order : List ℕ) (from to : ℕ) (g : Grouped w n s order from to) (c : Point) (is : leading w c ≡ centre_of w s (slice from to order)) where
  pub choose_begins : (d : Float) (p : Point) → leading w p ≡ row w s (get_or order from 0) → d ≡ squared (leading w p) (leading w c) → Choosing w n s order from to c (from + 1) d (get_or order from 0)
  unfolding representative
  choose_begins d p e f =
      let i = get_or order from 0 in
      let rest = slice (from + 1) to order in
      let n = next w n s order from to g from g.some in
      record {
        upto = omega (arith, g.some);
        small = g.within from g.some;
        rest =
            ap (representative w s) n
            ∙ ap (λ (a : List Float). (closest w s a (best (squared (row w s i) a) i) rest).index) (sym (is ∙ ap (centre_of w s) n))
            ∙ ap (λ (x : Float). (closest w s (leading w c) (best x i) rest).index) (sym (f ∙ ap (λ (a : List Float). squared a (leading w c)) e));
      }

  module _
      (k : ℕ) (least : Float) (rep : ℕ) (h : k < to) (d : Float) (p : Point) (e : leading w p ≡ row w s (get_or order k 0))
      (f : d ≡ squared (leading w p) (leading w c)) (i : Choosing w n s order from to c k least rep) where
    turned : (least' : Float) (rep' : ℕ) → best least' rep' ≡ closer d (get_or order k 0) (best least rep) → rep' < n → Choosing w n s order from to c (k + 1) least' rep'
    unfolding closest
    turned least' rep' b l = record {
      upto = omega arith;
      small = l;
      rest =
          i.rest
          ∙ ap (λ (q : List ℕ). (closest w s (leading w c) (best least rep) q).index) (next w n s order from to g k h)
          ∙ ap (λ (x : Float). (closest w s (leading w c) (closer x (get_or order k 0) (best least rep)) (slice (k + 1) to order)).index) (sym (f ∙ ap (λ (a : List Float). squared a (leading w c)) e))
          ∙ ap (λ (x : Best). (closest w s (leading w c) x (slice (k + 1) to order)).index) (sym b);
    }

    pub choose_closer : (least' : Float) (rep' : ℕ) → lt d least ≡ true → least' ≡ d → rep' ≡ get_or order k 0 → Choosing w n s order from to c (k + 1) least' rep'
    choose_closer least' rep' t a b =
        turned least' rep' (ap (λ (x : Float). best x rep') a ∙ ap (best d) b ∙ sym (ap (λ (u : Bool). cond u (best d (get_or order k 0)) (best least rep)) t)) (subst
        (λ (x : ℕ). x < n) (sym b) (g.within k h))

    pub choose_not : (least' : Float) (rep' : ℕ) → lt d least ≡ false → least' ≡ least → rep' ≡ rep → Choosing w n s order from to c (k + 1) least' rep'
    choose_not least' rep' t a b =
        turned least' rep' (ap (λ (x : Float). best x rep') a ∙ ap (best least) b ∙ sym (ap (λ (u : Bool). cond u (best d (get_or order k 0)) (best least rep)) t))
        (subst (λ (x : ℕ). x < n) (sym b) i.small)

  pub choose_ends : (k : ℕ) (least : Float) (rep : ℕ) → to ≤ k → Choosing w n s order from to c k least rep → rep ≡ representative w s (slice from to order)
  unfolding closest
  choose_ends k least rep h i = sym (i.rest ∙ ap (λ (q : List ℕ). (closest w s (leading w c) (best least rep) q).index) (last w n s order from to g k h i.upto))
