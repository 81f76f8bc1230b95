-- The columns of digits, one point more at a time. Assumes nothing.
use mathlib.Core.Path.{◌≡◌, sym, ap, ◌∙◌}
use mathlib.Core.Bool.{Bool}
use mathlib.Core.List.{List}
use Prim.Native.Nat.{ℕ, ◌+◌, ◌≤◌, ◌<◌}
use native.Mathlib.Omega.{arith}
use lib.Dec.{eqb}
use lib.ListN.{length, get_or, set, length-set}
use lib.Seq.{get_or-set_same, get_or-set_other}
use borrow.Author.Tests.{eqb-true, eqb-false}
use Rattle.lists.proofs.Bools.{by_cases}
use Rattle.scanned.specs.Scan.{point_place, point_from, point_at}
use Rattle.widening.specs.Halves.{half_points, half_of}
use Rattle.matching.specs.Steps.{lowest, above, half_at, DigitsAt, DigitsPut}

-- the digits of the first k keys stand there
pub record Filling (key : ℕ → ℕ) (u : ℕ) (a b c d : List ℕ) (k : ℕ) : Type 0 where
  pub within : k ≤ u
  pub a_long : length a ≡ u
  pub b_long : length b ≡ u
  pub c_long : length c ≡ u
  pub d_long : length d ≡ u
  pub digits : (j : ℕ) → j < k → DigitsAt (key j) j a b c d

module _ (key : ℕ → ℕ) (u : ℕ) where
  pub fill_turns :
      (a b c d a' b' c' d' : List ℕ) (k h : ℕ) → k < u → (h ≡ key k) × (h < half_points) → DigitsPut h k a b c d a' b' c' d' → Filling key u a b c d k
      → Filling key u a' b' c' d' (k + 1)
  fill_turns a b c d a' b' c' d' k h l e p f = record {
    within = omega arith;
    a_long = ap length p.a_is ∙ length-set a k (lowest h) ∙ f.a_long;
    b_long = ap length p.b_is ∙ length-set b k (lowest (above h)) ∙ f.b_long;
    c_long = ap length p.c_is ∙ length-set c k (lowest (above (above h))) ∙ f.c_long;
    d_long = ap length p.d_is ∙ length-set d k (lowest (above (above (above h)))) ∙ f.d_long;
    digits = λ j i. by_cases (eqb j k) (λ t. here j (eqb-true j k t)) (λ t. there j i (eqb-false j k t));
  }
    where
      at_k : (s s' : List ℕ) (v : ℕ) → s' ≡ set s k v → length s ≡ u → (j : ℕ) → j ≡ k → get_or s' j 0 ≡ v
      at_k s s' v q n j z =
          ap (λ (t : List ℕ). get_or t j 0) q ∙ ap (λ (i : ℕ). get_or (set s k v) i 0) z ∙ get_or-set_same s k v 0 (omega arith)

      off_k : (s s' : List ℕ) (v : ℕ) → s' ≡ set s k v → (j : ℕ) → (j ≡ k → ⊥) → get_or s' j 0 ≡ get_or s j 0
      off_k s s' v q j ne = ap (λ (t : List ℕ). get_or t j 0) q ∙ get_or-set_other s k j v 0 ne

      here : (j : ℕ) → j ≡ k → DigitsAt (key j) j a' b' c' d'
      here j z =
          let w : h ≡ key j = e.0 ∙ ap key (sym z) in
          let l : h < half_points = e.1 in
          record {
            small = omega arith;
            in_a = at_k a a' _ p.a_is f.a_long j z ∙ ap lowest w;
            in_b = at_k b b' _ p.b_is f.b_long j z ∙ ap (λ (n : ℕ). lowest (above n)) w;
            in_c = at_k c c' _ p.c_is f.c_long j z ∙ ap (λ (n : ℕ). lowest (above (above n))) w;
            in_d = at_k d d' _ p.d_is f.d_long j z ∙ ap (λ (n : ℕ). lowest (above (above (above n)))) w;
          }

      there : (j : ℕ) → j < k + 1 → (j ≡ k → ⊥) → DigitsAt (key j) j a' b' c' d'
      there j i ne =
          let o = f.digits j (omega arith) in
          record {
            small = o.small;
            in_a = off_k a a' _ p.a_is j ne ∙ o.in_a;
            in_b = off_k b b' _ p.b_is j ne ∙ o.in_b;
            in_c = off_k c c' _ p.c_is j ne ∙ o.in_c;
            in_d = off_k d d' _ p.d_is j ne ∙ o.in_d;
          }

-- half of point k, where it begins at i
pub half_key :
    (file : List ℕ) (upper : Bool) (k i h : ℕ) → (h ≡ half_of upper (point_from file i)) × (h < half_points) → i ≡ point_place k
    → (h ≡ half_at upper file k) × (h < half_points)
unfolding half_at point_at
half_key file upper k i h e q = (e.0 ∙ ap (λ (j : ℕ). half_of upper (point_from file j)) q, e.1)
