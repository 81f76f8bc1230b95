-- A half is told by its four digits, and so the marks of a sort by them are marks by half. Assumes nothing.
use mathlib.Core.Path.{◌≡◌, sym, ap, ◌∙◌}
use mathlib.Core.Bool.{true, ◌&&◌}
use mathlib.Core.List.{List}
use Prim.Native.Nat.{ℕ, ◌≤◌, ◌<◌}
use native.Mathlib.Omega.{arith}
use lib.Dec.{eqb}
use lib.ListN.{get_or}
use borrow.Author.Tests.{eqb-true, eq-eqb}
use Rattle.lists.proofs.Bools.{and_left, and_right, and_both}
use Rattle.lists.proofs.Counting.{clash}
use Rattle.keys.specs.Firsts as keys
use Rattle.widening.specs.Halves.{half_points}
use Rattle.matching.specs.Marks.{MarkedBy}
use Rattle.matching.specs.Steps.{lowest, above, HalfColumns}

-- a number is told by its lowest digit and what is above it
told : (x y : ℕ) → lowest x ≡ lowest y → above x ≡ above y → x ≡ y
told x y e f = omega arith

-- what is above three digits of a half is a digit
fourth : (h : ℕ) → h < half_points → lowest (above (above (above h))) ≡ above (above (above h))
fourth h l =
    let a : above h < 68719476736 = omega arith in
    let b : above (above h) < 16777216 = omega arith in
    let c : above (above (above h)) < 4096 = omega arith in
    omega arith

four_told :
    (x y : ℕ) → x < half_points → y < half_points → lowest x ≡ lowest y → lowest (above x) ≡ lowest (above y)
    → lowest (above (above x)) ≡ lowest (above (above y)) → lowest (above (above (above x))) ≡ lowest (above (above (above y))) → x ≡ y
four_told x y h i a b c d =
    told x y a (told (above x) (above y) b (told (above (above x)) (above (above y)) c (sym (fourth x h) ∙ d ∙ fourth y i)))

module _ (key : ℕ → ℕ) (u : ℕ) (a b c d : List ℕ) (r : HalfColumns key u a b c d) where
  -- points of one half have the digits of one key, and the other way
  same_half : (x y : ℕ) → x < u → y < u → keys.same_use a b c d x y ≡ true → key x ≡ key y
  same_half x y h i s =
      let ea = eqb (get_or a x 0) (get_or a y 0) in
      let eb = eqb (get_or b x 0) (get_or b y 0) in
      let ec = eqb (get_or c x 0) (get_or c y 0) in
      let ed = eqb (get_or d x 0) (get_or d y 0) in
      let p = r.digits x h in
      let q = r.digits y i in
      let sc : (ea && eb && ec) ≡ true = and_left (ea && eb && ec) ed s in
      let sb : (ea && eb) ≡ true = and_left (ea && eb) ec sc in
      four_told (key x) (key y) p.small q.small
      (sym p.in_a ∙ eqb-true _ _ (and_left ea eb sb) ∙ q.in_a)
      (sym p.in_b ∙ eqb-true _ _ (and_right ea eb sb) ∙ q.in_b)
      (sym p.in_c ∙ eqb-true _ _ (and_right (ea && eb) ec sc) ∙ q.in_c)
      (sym p.in_d ∙ eqb-true _ _ (and_right (ea && eb && ec) ed s) ∙ q.in_d)

  half_same : (x y : ℕ) → x < u → y < u → key x ≡ key y → keys.same_use a b c d x y ≡ true
  half_same x y h i e =
      let p = r.digits x h in
      let q = r.digits y i in
      and_both _ _
      (and_both _ _
      (and_both _ _ (eq-eqb _ _ (p.in_a ∙ ap lowest e ∙ sym q.in_a)) (eq-eqb _ _ (p.in_b ∙ ap (λ (n : ℕ). lowest (above n)) e ∙ sym q.in_b)))
      (eq-eqb _ _ (p.in_c ∙ ap (λ (n : ℕ). lowest (above (above n))) e ∙ sym q.in_c)))
      (eq-eqb _ _ (p.in_d ∙ ap (λ (n : ℕ). lowest (above (above (above n)))) e ∙ sym q.in_d))

  pub half_marked : (firsts : List ℕ) → keys.Marked a b c d u firsts → MarkedBy key u firsts
  half_marked firsts m = record {
    long = m.long;
    first = λ x h.
        let f = m.first x h in
        let l : get_or firsts x 0 ≤ x = f.upto in
        record {
          upto = l;
          same = same_half x (get_or firsts x 0) h (omega arith) f.same;
          none = λ y i e. clash (half_same x y h (omega arith) e) (f.none y i);
        };
  }
