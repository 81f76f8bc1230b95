-- What the call answers: a refusal by its number, or what was written. Assumes nothing.
use Rattle.std.proofs.Common.{◌≡◌, refl, sym, ap, ◌∙◌, List, map, ℕ, zero, suc, ◌*◌, ◌/◌, arith, length, Float}
use lib.Seq.{sets}
use Rattle.lists.specs.Lists.{joined, each}
use Rattle.mesh.specs.Limits.{width, least_ring}
use Rattle.mesh.specs.Mesh.{Mesh, Ring, faces, position_count}
use Rattle.mesh.specs.Table.{after}
use Rattle.mesh.proofs.After.{after_refused}
use Rattle.smoothed.specs.Smoothed.{fold, smoothed_faces, smoothed_count}
use Rattle.smoothed.specs.Positions.{smoothed_positions}
use Rattle.smoothed.specs.Promise.{smoothed_mesh, Given, Promised}
use Rattle.smoothed.specs.Columns.{triangles, degrees}
use Rattle.smoothed.specs.Refusals.{Result, result_of, positions_of, smoothing_number}
use Rattle.smoothed.proofs.Refusals.{zero_given, zero_promised}
use Rattle.smoothable.specs.Early.{early_number}
use Rattle.smoothing.specs.declared.Smoothed.{Smoothed}
use Rattle.smoothing.specs.Smoothing.{Smoothing}
use Rattle.smoothing.specs.Working.{refused_by, late_number, Checked, Done}
use Rattle.smoothing.proofs.Rooms.{positions_long, sizes_long, corners_long, corners_fits}
use Rattle.smoothing.proofs.Rounded.{round_triangles}
use Rattle.smoothing.proofs.Rows.{EarlyPassed, early_first, early_passed, then_late}
use Rattle.smoothing.proofs.Passing.{same_faces, checked}

-- the new by another name, where there is one
after_as : {A : Type 0} (n : ℕ) (x y old : A) → (n ≡ 0 → x ≡ y) → after n x old ≡ after n y old
after_as zero x y old h = h refl
after_as (suc n) x y old h = refl

-- a mesh that is not refused before anything is counted
pub now_checked :
    (m : Mesh) (ones twos : List Float) → early_number m ones twos ≡ 0 → Checked m.positions m.corners m.sizes ones twos
now_checked m ones twos e = checked m ones twos (early_passed m ones twos e)

module _ (m : Mesh) (ones twos : List Float) (b : Result) (answer : Smoothed) where
  -- refused before anything is counted
  pub refused_early : (n : ℕ) → n ≡ early_number m ones twos → (n ≡ 0 → ⊥) → answer ≡ refused_by n → Smoothing m ones twos b b answer
  refused_early n e h r = rw r (record {
    number = e ∙ sym (early_first m ones twos b (λ z. h (e ∙ z)));
    position_count_is = sym (after_refused n _ 0 h);
    corner_count_is = sym (after_refused n _ 0 h);
    face_count = sym (after_refused n _ 0 h);
    positions = sym (after_refused n _ b.positions h);
    corners = sym (after_refused n _ b.corners h);
    sizes = sym (after_refused n _ b.sizes h);
  })

  -- not refused so
  module _ (e : early_number m ones twos ≡ 0) where
    passed_early : EarlyPassed m ones twos
    passed_early = early_passed m ones twos e

    same : faces m ≡ triangles m.corners
    same = same_faces m ones twos passed_early

    number_is :
        smoothing_number m ones twos b
        ≡ late_number
        (degrees (triangles m.corners) (position_count m))
        (length m.corners)
        (length m.sizes)
        (length b.positions)
        (length b.corners)
        (length b.sizes)
    number_is =
        then_late m ones twos b passed_early
        ∙ ap
        (λ (fs : List Ring).
        late_number
        (degrees fs (position_count m))
        (length m.corners)
        (length m.sizes)
        (length b.positions)
        (length b.corners)
        (length b.sizes))
        same

    module _ (z : smoothing_number m ones twos b ≡ 0) where
      g : Given m
      g = zero_given m ones twos b z

      p : Promised m (positions_of m ones twos)
      p = zero_promised m ones twos b z

      position_counts : smoothed_count (position_count m) (triangles m.corners) ≡ position_count (result_of m ones twos)
      position_counts =
          ap (smoothed_count (position_count m)) (sym same) ∙ omega (arith, positions_long m ones twos g)

      corner_counts : fold * (length m.corners / width) ≡ length (result_of m ones twos).corners / width
      corner_counts =
          let t : ℕ = length m.sizes in
          let old : length m.corners / width ≡ least_ring * t = omega (arith, corners_long m ones twos g) in
          let new : length (result_of m ones twos).corners / width ≡ fold * (least_ring * t) =
          omega (arith, corners_fits m ones twos g p.accepted (round_triangles m ones twos g), corners_long m ones twos g) in
          omega arith

      face_counts : fold * length m.sizes ≡ length (result_of m ones twos).sizes
      face_counts = sym (sizes_long m ones twos g)

    pub answered : (left : Result) → Done m.positions m.corners m.sizes ones twos b left answer → Smoothing m ones twos b left answer
    unfolding smoothed_mesh
    answered left d =
        let number : answer.number ≡ smoothing_number m ones twos b = d.number ∙ sym number_is in
        let fs : List Ring = triangles m.corners in
        record {
          number = number;
          position_count_is = d.position_count_is ∙ after_as answer.number _ _ 0 (λ z. position_counts (sym number ∙ z));
          corner_count_is = d.corner_count_is ∙ after_as answer.number _ _ 0 (λ z. corner_counts (sym number ∙ z));
          face_count = d.face_count ∙ after_as answer.number _ _ 0 (λ z. face_counts (sym number ∙ z));
          positions =
              d.positions
              ∙ ap
              (λ (l : List Ring).
              after answer.number (sets b.positions 0 (smoothed_positions l m.positions ones twos (position_count m))) b.positions)
              (sym same);
          corners =
              d.corners
              ∙ ap
              (λ (l : List Ring). after answer.number (sets b.corners 0 (each joined (smoothed_faces (position_count m) l))) b.corners)
              (sym same);
          sizes =
              d.sizes
              ∙ ap
              (λ (l : List Ring). after answer.number (sets b.sizes 0 (map length (smoothed_faces (position_count m) l))) b.sizes)
              (sym same);
        }
