-- The representative of a group is nearest to the centre, and the first such; all distances are finite. A group has 2,048 points at
-- most, each of at most 2^60 on each axis, so nothing on the way grows too large. Assumes nothing.
use mathlib.Core.Path.{◌≡◌, refl, sym, ap, ◌∙◌, subst}
use mathlib.Core.Logic.{◌⊎◌, ⊎_elim, inl, inr}
use mathlib.Core.Bool.{Bool, true, false, cond}
use mathlib.Core.List.{List, [], ◌∷◌, ◌++◌, map}
use Prim.Native.Nat.{ℕ, zero, suc, ◌+◌, ◌*◌, ◌≤◌, ◌<◌}
use native.Mathlib.Nat.{le_refl, mul-le-mul_right}
use native.Mathlib.Omega.{arith}
use lib.Dec.{ltb, lit≤, lit<}
use lib.ListN.{length, take, drop, length-take, replicate}
use lib.Ieee.{Float, binary64, div, lt}
use borrow.Author.Tests.{lt-ltb, le-ltb, ltb-true, ltb-false}
use Rattle.lists.specs.Lists.{has}
use Rattle.lists.proofs.Bools.{true_false}
use Rattle.lists.proofs.Members.{In, in_cases}
use Rattle.mesh.specs.Limits.{entry_limit}
use Rattle.floating.specs.Points.{row}
use Rattle.floating.specs.Near.{nought, squared}
use Rattle.floating.proofs.Upto.{Upto, upto_finite, upto_more, upto_sum, upto_quotient, Least1, counted_least}
use Rattle.floating.proofs.InBox.{All, bound}
use Rattle.floating.proofs.Distances.{exact_bound, nought_upto, squared_upto, farthest, level, lt_level}
use Rattle.together.specs.Centre.{added, sum_from, counted, centre_of, best, closest, representative}
use Rattle.together.specs.Nearest.{apart, NearestFirst}

-- ---- the centre is at most 2,048 times 2^60 on each axis

all_take : {A : Type 0} (P : A → Type 0) (k : ℕ) (l : List A) → All P l → All P (take k l)
all_take P zero l h = tt
all_take P (suc k) [] h = tt
all_take P (suc k) (x ∷ l) h = (h.0, all_take P k l h.1)

all_drop : {A : Type 0} (P : A → Type 0) (k : ℕ) (l : List A) → All P l → All P (drop k l)
all_drop P zero l h = h
all_drop P (suc k) [] h = tt
all_drop P (suc k) (x ∷ l) h = all_drop P k l h.1

abbrev pub Small : Float → Type 0
Small x = Upto binary64 bound x

-- so many points of the list, summed
abbrev Summed : ℕ → Float → Type 0
Summed n x = Upto binary64 (n * bound) x

row_small : (w : ℕ) (s : List Float) (i : ℕ) → All Small s → All Small (row w s i)
unfolding row
row_small w s i h = all_take Small w (drop (w * i) s) (all_drop Small (w * i) s h)

row_length : (w : ℕ) (s : List Float) (i : ℕ) → w ≤ 3 → length (row w s i) ≤ 3
unfolding row
row_length w s i h = let e = length-take w (drop (w * i) s) in omega arith

one_more : (n b : ℕ) → n * b + b ≤ (n + 1) * b
one_more n b = omega arith

added_upto : (n : ℕ) (ps qs : List Float) → n + 1 ≤ entry_limit → All (Summed n) ps → All Small qs → All (Summed (n + 1)) (added ps qs)
unfolding added
added_upto n [] qs l h k = tt
added_upto n (p ∷ ps) [] l h k = tt
added_upto n (p ∷ ps) (q ∷ qs) l h k = (
  upto_sum binary64 (n * bound) bound ((n + 1) * bound) p q h.0 k.0 (exact_bound (n + 1) (omega arith)) (one_more n bound),
  added_upto n ps qs l h.1 k.1,
)

all_more : (n m : ℕ) (l : List Float) → n * bound ≤ m * bound → All (Summed n) l → All (Summed m) l
all_more n m [] h k = tt
all_more n m (x ∷ l) h k = (upto_more binary64 (n * bound) (m * bound) x h k.0, all_more n m l h k.1)

no_more : (n b : ℕ) → n ≤ entry_limit → n * b ≤ entry_limit * b
no_more n b h = mul-le-mul_right b h

sum_upto : (w : ℕ) (s : List Float) (n : ℕ) (acc : List Float) (g : List ℕ) → All Small s → n + length g ≤ entry_limit → All (Summed n) acc → All (Summed entry_limit) (sum_from w s acc g)
unfolding sum_from
sum_upto w s n acc [] a l h = all_more n entry_limit acc (no_more n bound (omega arith)) h
sum_upto w s n acc (i ∷ g) a l h = sum_upto w s (n + 1) (added acc (row w s i)) g a (omega arith) (added_upto n acc (row w s i) (omega arith) h (row_small w s i a))

noughts : (w : ℕ) → All (Summed 0) (replicate w nought)
noughts zero = tt
noughts (suc w) = (nought_upto (0 * bound), noughts w)

divided : (d : Float) → Least1 binary64 d → (l : List Float) → All (Summed entry_limit) l → All (Summed entry_limit) (map (λ x. div binary64 x d) l)
divided d e [] h = tt
divided d e (x ∷ l) h = (upto_quotient binary64 (entry_limit * bound) x d h.0 (exact_bound entry_limit (lit≤ tt)) e, divided d e l h.1)

centre_upto : (w : ℕ) (s : List Float) (g : List ℕ) → All Small s → 1 ≤ length g → length g ≤ entry_limit → All (Summed entry_limit) (centre_of w s g)
unfolding centre_of
centre_upto w s g a l h =
    divided (counted g) (counted_least binary64 (lit< tt) (lit≤ tt) (length g) l (omega arith)) (sum_from w s (replicate w nought) g)
    (sum_upto w s 0 (replicate w nought) g a (omega arith) (noughts w))

-- ---- the first of the nearest

-- x is j, or one of g that is nearer; and those before it are farther, and none is nearer
record Later (p : ℕ → ℕ) (j x : ℕ) (g : List ℕ) : Type 0 where
  before : List ℕ
  behind : List ℕ
  stands : g ≡ before ++ (x ∷ behind)
  nearer : p x < p j
  farther : (i : ℕ) → In i before → p x < p i

record Picked (p : ℕ → ℕ) (j x : ℕ) (g : List ℕ) : Type 0 where
  place : (x ≡ j) ⊎ Later p j x g
  upto : p x ≤ p j
  least : (i : ℕ) → In i g → p x ≤ p i

-- a point i that is no nearer than j is passed over; one that is nearer takes its place
module _ (p : ℕ → ℕ) (j x i : ℕ) (g : List ℕ) where
  passed : p j ≤ p i → Picked p j x g → Picked p j x (i ∷ g)
  passed l q = record {
    place =
        ⊎_elim inl
        (λ r.
        inr (record {
          before = i ∷ r.before;
          behind = r.behind;
          stands = ap (λ (h : List ℕ). i ∷ h) r.stands;
          nearer = r.nearer;
          farther = λ k h. ⊎_elim (λ e. subst (λ (y : ℕ). p x < p y) (sym e) (let z : p x < p j = r.nearer in omega arith)) (r.farther k) (in_cases k i r.before h);
        }))
        q.place;
    upto = q.upto;
    least = λ k h. ⊎_elim (λ e. subst (λ (y : ℕ). p x ≤ p y) (sym e) (let z : p x ≤ p j = q.upto in omega arith)) (q.least k) (in_cases k i g h);
  }

  replaced : p i < p j → Picked p i x g → Picked p j x (i ∷ g)
  replaced l q = record {
    place =
        ⊎_elim
        (λ e.
        inr (record {
          before = [];
          behind = g;
          stands = ap (λ (y : ℕ). y ∷ g) (sym e);
          nearer = subst (λ (y : ℕ). p y < p j) (sym e) l;
          farther = λ k h. absurd (true_not_false (sym h));
        }))
        (λ r.
        inr (record {
          before = i ∷ r.before;
          behind = r.behind;
          stands = ap (λ (h : List ℕ). i ∷ h) r.stands;
          nearer = (let z : p x < p i = r.nearer in omega arith);
          farther = λ k h. ⊎_elim (λ e. subst (λ (y : ℕ). p x < p y) (sym e) r.nearer) (r.farther k) (in_cases k i r.before h);
        }))
        q.place;
    upto = (let z : p x ≤ p i = q.upto in omega arith);
    least = λ k h. ⊎_elim (λ e. subst (λ (y : ℕ). p x ≤ p y) (sym e) q.upto) (q.least k) (in_cases k i g h);
  }
    where
      true_not_false : ◌≡◌ {A = Bool} true false → ⊥
      true_not_false e = true_false e

module _ (w : ℕ) (s c : List Float) where
  abbrev dist : ℕ → Float
  dist i = squared (row w s i) c

  abbrev far : ℕ → ℕ
  far i = level (dist i)

  abbrev end : ℕ → List ℕ → ℕ
  end j g = (closest w s c (best (dist j) j) g).index

  closest_more :
      (j i : ℕ) (g : List ℕ) (t : Bool)
      → ltb (far i) (far j) ≡ t
      → Picked far i (end i g) g
      → Picked far j (end j g) g
      → Picked far j (closest w s c (cond t (best (dist i) i) (best (dist j) j)) g).index (i ∷ g)
  closest_more j i g true e a b = replaced far j (end i g) i g (ltb-true (far i) (far j) e) a
  closest_more j i g false e a b = passed far j (end j g) i g (ltb-false (far i) (far j) e) b

  closest_picked : ((i : ℕ) → Upto binary64 farthest (dist i)) → (j : ℕ) (g : List ℕ) → Picked far j (end j g) g
  unfolding closest
  closest_picked u j [] = record { place = inl refl; upto = le_refl (far j); least = λ k h. true_false (sym h) }
  closest_picked u j (i ∷ g) =
      closest_more j i g (lt (dist i) (dist j)) (sym (lt_level (dist i) (dist j) (u i) (u j))) (closest_picked u i g) (closest_picked u j g)

-- ---- a group of at most 2,048 points

module _ (w : ℕ) (s : List Float) (narrow : w ≤ 3) (a : All Small s) where
  dist_upto : (g : List ℕ) → 1 ≤ length g → length g ≤ entry_limit → (i : ℕ) → Upto binary64 farthest (apart w s g i)
  dist_upto g l h i = squared_upto (row w s i) (centre_of w s g) (row_length w s i narrow) (row_small w s i a) (centre_upto w s g a l h)

  picked : (j : ℕ) (g : List ℕ) → suc (length g) ≤ entry_limit → Picked (far w s (centre_of w s (j ∷ g))) j (representative w s (j ∷ g)) g
  unfolding representative
  picked j g h = closest_picked w s (centre_of w s (j ∷ g)) (dist_upto (j ∷ g) (omega arith) h) j g

  pub nearest_first : (j : ℕ) (g : List ℕ) → suc (length g) ≤ entry_limit → NearestFirst w s (j ∷ g)
  nearest_first j g h = record {
    before = ⊎_elim (λ e. []) (λ r. j ∷ r.before) q.place;
    behind = ⊎_elim (λ e. g) (λ r. r.behind) q.place;
    stands = stands q.place;
    finite = λ i k. upto_finite binary64 farthest (apart w s (j ∷ g) i) (u i);
    nearest = λ i k. lt_level (apart w s (j ∷ g) i) (apart w s (j ∷ g) x) (u i) (u x) ∙ le-ltb (p i) (p x) (least i (in_cases i j g k));
    first = λ i k. lt_level (apart w s (j ∷ g) x) (apart w s (j ∷ g) i) (u x) (u i) ∙ lt-ltb (p x) (p i) (first i q.place k);
  }
    where
      x : ℕ
      x = representative w s (j ∷ g)

      p : ℕ → ℕ
      p i = level (apart w s (j ∷ g) i)

      u : (i : ℕ) → Upto binary64 farthest (apart w s (j ∷ g) i)
      u = dist_upto (j ∷ g) (omega arith) h

      q : Picked (far w s (centre_of w s (j ∷ g))) j (representative w s (j ∷ g)) g
      q = picked j g h

      least : (i : ℕ) → (i ≡ j) ⊎ In i g → p x ≤ p i
      least i (inl e) = subst (λ (y : ℕ). p x ≤ p y) (sym e) q.upto
      least i (inr k) = q.least i k

      stands : (r : (x ≡ j) ⊎ Later p j x g) → j ∷ g ≡ ⊎_elim (λ e. []) (λ r. j ∷ r.before) r ++ (x ∷ ⊎_elim (λ e. g) (λ r. r.behind) r)
      stands (inl e) = ap (λ (y : ℕ). y ∷ g) (sym e)
      stands (inr r) = ap (λ (l : List ℕ). j ∷ l) r.stands

      first : (i : ℕ) (r : (x ≡ j) ⊎ Later p j x g) → has i (⊎_elim (λ e. []) (λ r. j ∷ r.before) r) ≡ true → p x < p i
      first i (inl e) k = true_false (sym k)
      first i (inr r) k = ⊎_elim (λ e. subst (λ (y : ℕ). p x < p y) (sym e) r.nearer) (r.farther i) (in_cases i j r.before k)
