-- Positions, scaled and merged: what the scaled list is good for. Assumes nothing.
use mathlib.Core.Path.{◌≡◌, refl, sym, ap, ◌∙◌, subst}
use mathlib.Core.List.{List, [], ◌∷◌, map}
use Prim.Native.Nat.{ℕ, suc, ◌*◌, ◌/◌, ◌%◌, ◌≤◌, ◌<◌}
use native.Mathlib.Omega.{arith}
use lib.Dec.{T, lit≤}
use lib.ListN.{length, get_or, take, length-map}
use lib.Seq.{sets}
use lib.Ieee.{Float, nan, binary64, fits}
use Rattle.lists.specs.Lists.{each}
use Rattle.lists.proofs.Copies.{take_written}
use Rattle.mesh.specs.Limits.{point_numbers}
use Rattle.floating.specs.Points.{coordinates, points_of, Whole}
use Rattle.floating.specs.Scaling.{box_of, scaled_in, scaled_list}
use Rattle.floating.proofs.Boxes.{length_points, length_coordinates}
use Rattle.floating.proofs.InBox.{scaled_near}
use Rattle.nearby.specs.Pairs.{pairs, compared_pairs}
use Rattle.together.specs.Merging.{merged_to}
use Rattle.together.specs.Working.{Mergeable, Settled, Scalable}

-- ---- no positions

no_list : (t : Float) (s : List Float) → length s ≡ 0 → 0 ≡ compared_pairs t 3 (scaled_list s)
unfolding compared_pairs scaled_list pairs
no_list t [] h = refl
no_list t (x ∷ s) h = absurd (let z : suc (length s) ≡ 0 = h in omega arith)

pub none_merged : (t : Float) (s : List Float) (to : ℕ → ℕ) (m : List ℕ) → length s ≡ 0 → (0 ≡ compared_pairs t 3 (scaled_list s)) × Settled (length s / 3) to m m
none_merged t s to m h = (
  no_list t s h,
  record {
    long = refl;
    each = λ k l. absurd (let z : k < length s / 3 = l in omega arith);
    small = λ k l. absurd (let z : k < length s / 3 = l in omega arith);
  },
)

-- ---- some positions

pub scaled_length : (s : List Float) → length s % 3 ≡ 0 → length (scaled_list s) ≡ length s
unfolding scaled_list
scaled_length s h =
    let b = box_of (points_of s) in
    let e : length (each coordinates (map (scaled_in b) (points_of s))) ≡ 3 * length (map (scaled_in b) (points_of s)) = length_coordinates (map (scaled_in b) (points_of s)) in
    let k : length (map (scaled_in b) (points_of s)) ≡ length s / 3 = length-map (points_of s) (scaled_in b) ∙ length_points s in
    omega arith

module _ (s : List Float) (t : Float) (g : Scalable s t) where
  pub whole : (length s ≡ 0 → ⊥) → Whole s
  whole h = record { some = omega (arith, g.even, h); even = g.even }

  length_scaled : length (scaled_list s) ≡ length s
  length_scaled = scaled_length s g.even

  -- the scaled list stands at the front of its room
  pub scaled_are : (room room' : List Float) → length room ≡ point_numbers → room' ≡ sets room 0 (scaled_list s) → take (length s) room' ≡ scaled_list s
  scaled_are room room' l e = ap (take (length s)) e ∙ take_written room (scaled_list s) (length s) length_scaled (omega (arith, g.few))

  module _ (sc : List Float) (are : sc ≡ scaled_list s) where
    pub mergeable : (m : List ℕ) → T (fits binary64 t) → ((k : ℕ) → k < length s → T (fits binary64 (get_or s k nan))) → length s / 3 ≤ length m → Mergeable t 3 (length s / 3) sc m
    mergeable m ft f r =
        subst (λ (x : List Float). Mergeable t 3 (length s / 3) x m) (sym are)
        (record {
          least = lit≤ tt;
          most = lit≤ tt;
          few = omega (arith, g.few);
          long = omega (arith, g.even, length_scaled);
          near = scaled_near s f g.bounded t ft g.fit;
          room = r;
        })

    pub merged_are :
        (r : ℕ) (m m' : List ℕ)
        → (r ≡ compared_pairs t 3 sc) × Settled (length s / 3) (merged_to t 3 sc) m m'
        → (r ≡ compared_pairs t 3 (scaled_list s)) × Settled (length s / 3) (merged_to t 3 (scaled_list s)) m m'
    merged_are r m m' x = subst (λ (y : List Float). (r ≡ compared_pairs t 3 y) × Settled (length s / 3) (merged_to t 3 y) m m') are x
