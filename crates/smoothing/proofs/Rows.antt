-- The rows that are left once the neighbours are counted; and that these, behind those that were looked at before, are all the rows.
-- Assumes nothing.
use Rattle.std.proofs.Common.{◌≡◌, refl, sym, ◌∙◌, Bool, true, false, ◌||◌, List, [], ◌∷◌, ℕ, zero, suc, ◌+◌, ◌*◌, ◌/◌, ◌≤◌, ◌<◌, length, ltb, Float, lt-ltb, le-ltb, ltb-false}
use lib.ListN.{length-map}
use Rattle.lists.specs.Lists.{some, span}
use Rattle.lists.proofs.Alike.{some_map}
use Rattle.lists.proofs.Bools.{or_false_left, or_false_right}
use Rattle.lists.proofs.Buckets.{length_span}
use Rattle.mesh.specs.Limits.{point_width, width}
use Rattle.mesh.specs.Mesh.{Mesh, faces, position_count}
use Rattle.mesh.specs.Table.{when, first_of, over_limits, mesh_number, short}
use Rattle.mesh.proofs.Numbers.{first_head, first_tail, when_not}
use Rattle.smoothed.specs.Smoothed.{fold}
use Rattle.smoothed.specs.Around.{neighbours}
use Rattle.smoothed.specs.Promise.{most_faces}
use Rattle.smoothed.specs.Columns.{degrees}
use Rattle.smoothed.specs.Refusals.{boundless_position, other_face, folded_or_idle, unoriented, cosine_count, unfit_list, crowded, unfit_cosines, result_of, Result, too_short, smoothing_number}
use Rattle.smoothed.proofs.Refusals.{over_exactly}
use Rattle.smoothable.specs.Early.{early_number}
use Rattle.smoothing.specs.Working.{late_number}

-- ---- the rows that are left, one by one

module _ (ds : List ℕ) (c f p q s : ℕ) where
  pub late_17 : some (ltb cosine_count) ds ≡ true → 17 ≡ late_number ds c f p q s
  unfolding late_number
  late_17 e = rw e

  module _ (few : some (ltb cosine_count) ds ≡ false) where
    pub late_1 : most_faces < f → 1 ≡ late_number ds c f p q s
    unfolding late_number
    late_1 h = rw (few, lt-ltb most_faces f h)

    module _ (small : f ≤ most_faces) where
      pub late_positions : p < point_width * (length ds + c / width) → 9 ≡ late_number ds c f p q s
      unfolding late_number short
      late_positions h = rw (few, le-ltb most_faces f small, lt-ltb p (point_width * (length ds + c / width)) h)

      module _ (a : point_width * (length ds + c / width) ≤ p) where
        pub late_corners : q < fold * c → 9 ≡ late_number ds c f p q s
        unfolding late_number short
        late_corners h = rw (few, le-ltb most_faces f small, le-ltb p (point_width * (length ds + c / width)) a, lt-ltb q (fold * c) h)

        module _ (b : fold * c ≤ q) where
          pub late_sizes : s < fold * f → 9 ≡ late_number ds c f p q s
          unfolding late_number short
          late_sizes h =
              rw (
                few,
                le-ltb most_faces f small,
                le-ltb p (point_width * (length ds + c / width)) a,
                le-ltb q (fold * c) b,
                lt-ltb s (fold * f) h,
              )

          pub late_0 : fold * f ≤ s → 0 ≡ late_number ds c f p q s
          unfolding late_number short
          late_0 h =
              rw (
                few,
                le-ltb most_faces f small,
                le-ltb p (point_width * (length ds + c / width)) a,
                le-ltb q (fold * c) b,
                le-ltb s (fold * f) h,
              )

-- where none of them gives a number
pub record LatePassed (ds : List ℕ) (c f p q s : ℕ) : Type 0 where
  pub uncrowded : some (ltb cosine_count) ds ≡ false
  pub positions : point_width * (length ds + c / width) ≤ p
  pub corners : fold * c ≤ q
  pub sizes : fold * f ≤ s

row : (b : Bool) (n : ℕ) (ns : List ℕ) → first_of (when b (suc n) ∷ ns) ≡ 0 → (b ≡ false) × (first_of ns ≡ 0)
row b n ns h = (when_not b n (first_head (when b (suc n)) ns h), first_tail (when b (suc n)) ns h)

pub late_passed : (ds : List ℕ) (c f p q s : ℕ) → late_number ds c f p q s ≡ 0 → LatePassed ds c f p q s
unfolding late_number short
late_passed ds c f p q s h =
    let x = ltb p (point_width * (length ds + c / width)) in
    let y = ltb q (fold * c) in
    let z = ltb s (fold * f) in
    let r9 = when (x || (y || (z || false))) 9 ∷ [] in
    let r1 = when (ltb most_faces f) 1 ∷ r9 in
    let a : (some (ltb cosine_count) ds ≡ false) × (first_of r1 ≡ 0) = row (some (ltb cosine_count) ds) 16 r1 h in
    let b : (ltb most_faces f ≡ false) × (first_of r9 ≡ 0) = row (ltb most_faces f) 0 r9 a.1 in
    let d : ((x || (y || (z || false))) ≡ false) × (first_of [] ≡ 0) = row (x || (y || (z || false))) 8 [] b.1 in
    let e : (y || (z || false)) ≡ false = or_false_right x (y || (z || false)) d.0 in
    record {
      uncrowded = a.0;
      positions = ltb-false p (point_width * (length ds + c / width)) (or_false_left x (y || (z || false)) d.0);
      corners = ltb-false q (fold * c) (or_false_left y (z || false) e);
      sizes = ltb-false s (fold * f) (or_false_left z false (or_false_right y (z || false) e));
    }

-- ---- rows that were looked at before, then these

-- two tables that begin with the same row, the first of which gives a number
more : (n : ℕ) (ks ls : List ℕ) → ((first_of ks ≡ 0 → ⊥) → first_of ls ≡ first_of ks) → (first_of (n ∷ ks) ≡ 0 → ⊥) → first_of (n ∷ ls) ≡ first_of (n ∷ ks)
more zero ks ls f h = f h
more (suc n) ks ls f h = refl

last : (a b c : Bool) (ns : List ℕ) → (first_of (when (a || b) 17 ∷ []) ≡ 0 → ⊥) → first_of (when (a || (b || c)) 17 ∷ ns) ≡ first_of (when (a || b) 17 ∷ [])
last true b c ns h = refl
last false true c ns h = refl
last false false c ns h = absurd (h refl)

module _ (m : Mesh) (ones twos : List Float) (r : Result) where
  pub early_first : (early_number m ones twos ≡ 0 → ⊥) → smoothing_number m ones twos r ≡ early_number m ones twos
  unfolding smoothing_number early_number unfit_cosines
  early_first h =
      let k17 = when (unfit_list ones || unfit_list twos) 17 ∷ [] in
      let k10 = when (unoriented m) 10 ∷ k17 in
      let k16 = when (folded_or_idle m) 16 ∷ k10 in
      let k15 = when (other_face m) 15 ∷ k16 in
      let k7 = when (boundless_position m) 7 ∷ k15 in
      let crowds = some (crowded m) (span 0 (position_count m)) in
      let l1 = when (over_limits (result_of m ones twos)) 1 ∷ when (too_short m r) 9 ∷ [] in
      let l17 = when (unfit_list ones || (unfit_list twos || crowds)) 17 ∷ l1 in
      let l10 = when (unoriented m) 10 ∷ l17 in
      let l16 = when (folded_or_idle m) 16 ∷ l10 in
      let l15 = when (other_face m) 15 ∷ l16 in
      let l7 = when (boundless_position m) 7 ∷ l15 in
      more (mesh_number m) k7 l7
      (more (when (boundless_position m) 7) k15 l15
      (more (when (other_face m) 15) k16 l16
      (more (when (folded_or_idle m) 16) k10 l10
      (more (when (unoriented m) 10) k17 l17 (last (unfit_list ones) (unfit_list twos) crowds l1)))))
      h

-- no row that was looked at before gives a number
pub record EarlyPassed (m : Mesh) (ones twos : List Float) : Type 0 where
  pub accepted : mesh_number m ≡ 0
  pub bounded : boundless_position m ≡ false
  pub triangles : other_face m ≡ false
  pub unfolded : folded_or_idle m ≡ false
  pub in_order : unoriented m ≡ false
  pub ones_fit : unfit_list ones ≡ false
  pub twos_fit : unfit_list twos ≡ false

pub early_passed : (m : Mesh) (ones twos : List Float) → early_number m ones twos ≡ 0 → EarlyPassed m ones twos
unfolding early_number
early_passed m ones twos h =
    let r17 = when (unfit_list ones || unfit_list twos) 17 ∷ [] in
    let r10 = when (unoriented m) 10 ∷ r17 in
    let r16 = when (folded_or_idle m) 16 ∷ r10 in
    let r15 = when (other_face m) 15 ∷ r16 in
    let r7 = when (boundless_position m) 7 ∷ r15 in
    let a : (boundless_position m ≡ false) × (first_of r15 ≡ 0) = row (boundless_position m) 6 r15 (first_tail (mesh_number m) r7 h) in
    let b : (other_face m ≡ false) × (first_of r16 ≡ 0) = row (other_face m) 14 r16 a.1 in
    let c : (folded_or_idle m ≡ false) × (first_of r10 ≡ 0) = row (folded_or_idle m) 15 r10 b.1 in
    let d : (unoriented m ≡ false) × (first_of r17 ≡ 0) = row (unoriented m) 9 r17 c.1 in
    let e : ((unfit_list ones || unfit_list twos) ≡ false) × (first_of [] ≡ 0) = row (unfit_list ones || unfit_list twos) 16 [] d.1 in
    record {
      accepted = first_head (mesh_number m) r7 h;
      bounded = a.0;
      triangles = b.0;
      unfolded = c.0;
      in_order = d.0;
      ones_fit = or_false_left (unfit_list ones) (unfit_list twos) e.0;
      twos_fit = or_false_right (unfit_list ones) (unfit_list twos) e.0;
    }

module _ (m : Mesh) (ones twos : List Float) (r : Result) (e : EarlyPassed m ones twos) where
  crowded_degrees : some (crowded m) (span 0 (position_count m)) ≡ some (ltb cosine_count) (degrees (faces m) (position_count m))
  unfolding degrees
  crowded_degrees = sym (some_map (ltb cosine_count) (λ v. length (neighbours (faces m) v)) (span 0 (position_count m)))

  degree_count : length (degrees (faces m) (position_count m)) ≡ position_count m
  unfolding degrees
  degree_count = length-map (span 0 (position_count m)) (λ v. length (neighbours (faces m) v)) ∙ length_span 0 (position_count m)

  pub then_late :
      smoothing_number m ones twos r
      ≡ late_number
      (degrees (faces m) (position_count m))
      (length m.corners)
      (length m.sizes)
      (length r.positions)
      (length r.corners)
      (length r.sizes)
  unfolding smoothing_number late_number unfit_cosines too_short
  then_late =
      rw (
        e.accepted,
        e.bounded,
        e.triangles,
        e.unfolded,
        e.in_order,
        e.ones_fit,
        e.twos_fit,
        crowded_degrees,
        over_exactly m ones twos e.accepted e.triangles e.unfolded,
        degree_count,
      )
