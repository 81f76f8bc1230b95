-- The rooms that the functions lend one another. Assumes nothing.
use mathlib.Core.Path.{◌≡◌, refl, sym, ◌∙◌, subst}
use mathlib.Core.Bool.{true, false}
use mathlib.Core.List.{List}
use Prim.Native.Nat.{ℕ, ◌≤◌}
use native.Mathlib.Omega.{arith}
use lib.ListN.{length, take, replicate, get_or-replicate}
use lib.Seq.{get_or-take}
use Rattle.lists.proofs.Buckets.{length_front}
use Rattle.mesh.specs.Limits.{corner_limit}
use Rattle.columns.specs.Columns.{normal_digit}
use Rattle.keys.specs.Firsts as keys
use Rattle.scanned.specs.Scan.{point_at}
use Rattle.matching.specs.Marks.{MarkedBy, FirstPairs}
use Rattle.matching.specs.Steps.{half_at, HalfColumns, HalfRoom, BothRoom, BothRows, AlikeRoom}
use Rattle.matching.proofs.Digits.{half_marked}
use Rattle.matching.proofs.Both.{both_marked}

-- the front of a row of fixed length
pub row_long : (b u : ℕ) → u ≤ corner_limit → length (take u (replicate corner_limit b)) ≡ u
row_long b u h = length_front b u corner_limit h

digit_one : normal_digit 0 ≡ 1
unfolding normal_digit
digit_one = refl

-- with a row that is alike all along
pub alike_room :
    (low high firsts : List ℕ) → BothRows low high (length firsts)
    → AlikeRoom low high (take (length firsts) (replicate corner_limit 1)) (take (length firsts) (replicate corner_limit 0)) firsts
alike_room low high firsts r = record {
  rows = r;
  alike_long = row_long 1 (length firsts) r.few;
  alike_is = λ x h.
      (let f : length firsts ≤ corner_limit = r.few in
      get_or-take (length firsts) (replicate corner_limit 1) x 0 h ∙ get_or-replicate corner_limit x 1 0 (omega arith) ∙ sym digit_one);
  order_long = row_long 0 (length firsts) r.few;
}

-- one length for another
pub marked_of : (key : ℕ → ℕ) (u v : ℕ) (fs : List ℕ) → u ≡ v → MarkedBy key u fs → MarkedBy key v fs
marked_of key u v fs e m = subst (λ (w : ℕ). MarkedBy key w fs) e m

-- ---- from one function to the next

module _ (file a b c d order firsts : List ℕ) (r : HalfRoom file a b c d order firsts) (key : ℕ → ℕ) (a' b' c' d' : List ℕ)
    (h : HalfColumns key (length a) a' b' c' d') where
  pub half_done : (firsts' : List ℕ) → keys.Marked a' b' c' d' (length order) firsts' → MarkedBy key (length firsts) firsts'
  half_done firsts' m =
      let e : length order ≡ length a = r.order_long ∙ sym r.a_long in
      marked_of key (length a) (length firsts) firsts' r.a_long
      (half_marked key (length a) a' b' c' d' h firsts' (subst (λ (u : ℕ). keys.Marked a' b' c' d' u firsts') e m))

module _ (file low high firsts : List ℕ) (r : BothRoom file low high firsts) (low' high' : List ℕ)
    (ml : MarkedBy (half_at false file) (length low) low') (mh : MarkedBy (half_at true file) (length high) high') where
  pub both_done : (firsts' : List ℕ) → FirstPairs low' high' (length firsts) firsts' → MarkedBy (point_at file) (length firsts) firsts'
  unfolding half_at
  both_done firsts' m =
      both_marked (point_at file) (length firsts) low' high' firsts'
      (marked_of (half_at false file) (length low) (length firsts) low' r.low_long ml)
      (marked_of (half_at true file) (length high) (length firsts) high' r.high_long mh)
      m
