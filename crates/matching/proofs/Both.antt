-- Marks by the lower and by the upper half make marks by the point. Assumes nothing.
use mathlib.Core.Path.{◌≡◌, refl, sym, ap, ◌∙◌}
use mathlib.Core.Logic.{⊎_elim}
use mathlib.Core.Bool.{true, false}
use mathlib.Core.List.{List}
use Prim.Native.Nat.{ℕ, ◌/◌, ◌%◌, ◌≤◌, ◌<◌}
use native.Mathlib.Omega.{arith}
use lib.ListN.{length, get_or}
use Rattle.lists.proofs.Buckets.{lt_or_ge}
use Rattle.columns.specs.Columns.{normal_digit}
use Rattle.sorting.specs.Sorting.{key_limit}
use Rattle.keys.specs.Firsts as keys
use Rattle.widening.specs.Halves.{half_of}
use Rattle.matching.specs.Marks.{MarkedBy, FirstPairs}
use Rattle.matching.specs.Steps.{AlikeRoom}

-- ---- marks tell keys

module _ (key : ℕ → ℕ) (u : ℕ) (fs : List ℕ) (m : MarkedBy key u fs) where
  pub marks_key : (x y : ℕ) → x < u → y < u → get_or fs x 0 ≡ get_or fs y 0 → key x ≡ key y
  marks_key x y h i e = (m.first x h).same ∙ ap key e ∙ sym (m.first y i).same

  not_before : (x y : ℕ) → x < u → y < u → key x ≡ key y → get_or fs x 0 < get_or fs y 0 → ⊥
  not_before x y h i e l = (m.first y i).none (get_or fs x 0) l (sym e ∙ (m.first x h).same)

  pub key_marks : (x y : ℕ) → x < u → y < u → key x ≡ key y → get_or fs x 0 ≡ get_or fs y 0
  key_marks x y h i e =
      ⊎_elim
      (λ l. absurd (not_before x y h i e l))
      (λ g. ⊎_elim (λ l. absurd (not_before y x i h (sym e) l)) (λ k. omega arith) (lt_or_ge (get_or fs y 0) (get_or fs x 0)))
      (lt_or_ge (get_or fs x 0) (get_or fs y 0))

-- ---- a point by its halves

halves_told : (p q : ℕ) → half_of false p ≡ half_of false q → half_of true p ≡ half_of true q → p ≡ q
unfolding half_of
halves_told p q e f =
    let a : p % 281474976710656 ≡ q % 281474976710656 = e in
    let b : p / 281474976710656 ≡ q / 281474976710656 = f in
    omega arith

module _
    (point : ℕ → ℕ)
    (u : ℕ)
    (low high firsts : List ℕ)
    (ml : MarkedBy (λ k. half_of false (point k)) u low)
    (mh : MarkedBy (λ k. half_of true (point k)) u high)
  where
    pub both_marked : FirstPairs low high u firsts → MarkedBy point u firsts
    both_marked m = record {
      long = m.long;
      first = λ x h.
          let f = m.first x h in
          let l : get_or firsts x 0 ≤ x = f.upto in
          record {
            upto = l;
            same =
                halves_told (point x) (point (get_or firsts x 0))
                (marks_key (λ k. half_of false (point k)) u low ml x (get_or firsts x 0) h (omega arith) f.same_low)
                (marks_key (λ k. half_of true (point k)) u high mh x (get_or firsts x 0) h (omega arith) f.same_high);
            none = λ y i e.
                f.none y i
                (key_marks (λ k. half_of false (point k)) u low ml x y h (omega arith) (ap (half_of false) e))
                (key_marks (λ k. half_of true (point k)) u high mh x y h (omega arith) (ap (half_of true) e));
          };
    }

-- ---- the sort by two marks

digit_one : normal_digit 0 ≡ 1
unfolding normal_digit
digit_one = refl

module _ (low high alike order firsts : List ℕ) (r : AlikeRoom low high alike order firsts) where
  pub pairs_sort : keys.TwoRows false low high alike alike order firsts
  pairs_sort =
      let o : length order ≡ length firsts = r.order_long in
      let below : (x : ℕ) → x < length order → get_or alike x 0 < key_limit =
      λ x h. (let e : get_or alike x 0 ≡ 1 = r.alike_is x (omega arith) ∙ digit_one in omega arith) in
      record {
        columns = record {
          few = omega (arith, r.rows.few);
          of_lower = record { long = r.rows.low_long ∙ sym o; below = λ x h. r.rows.low_below x (omega arith) };
          of_higher = record { long = r.rows.high_long ∙ sym o; below = λ x h. r.rows.high_below x (omega arith) };
          of_n = record { long = r.alike_long ∙ sym o; below = below };
          of_m = record { long = r.alike_long ∙ sym o; below = below };
        };
        plain = λ e x h. (r.alike_is x (omega arith), r.alike_is x (omega arith));
        spare_long = sym o;
      }
