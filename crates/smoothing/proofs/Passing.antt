-- A mesh that no row refused before the neighbours were counted is one that the code can work on. Assumes nothing.
use Rattle.std.proofs.Common.{◌≡◌, sym, ap, ◌∙◌, true, false, not, List, arith, length, eqb, Float, eqb-true}
use borrow.Author.Tests.{not-false}
use Rattle.lists.specs.Lists.{some}
use Rattle.lists.proofs.Bools.{or_false_left, or_false_right}
use Rattle.mesh.specs.Mesh.{Mesh, faces, position_count}
use Rattle.mesh.proofs.Accepted.{Accepted, accepted}
use Rattle.folding.specs.Folding.{folded}
use Rattle.smoothed.specs.Smoothed.{all_used}
use Rattle.smoothed.specs.Columns.{triangles, Triangular}
use Rattle.smoothed.specs.Refusals.{folded_or_idle, cosine_count, within_one, unfit_list}
use Rattle.smoothed.proofs.Triangles.{faces_triangles, triangular_mesh, triangular_smoothable}
use Rattle.smoothable.proofs.Rows.{all_three}
use Rattle.smoothing.specs.Working.{Checked}
use Rattle.smoothing.proofs.Rooms.{sum_threes}
use Rattle.smoothing.proofs.Rows.{EarlyPassed}

fit_long : (cs : List Float) → unfit_list cs ≡ false → length cs ≡ cosine_count
fit_long cs h =
    eqb-true (length cs) cosine_count
    (not-false (eqb (length cs) cosine_count) (or_false_left (not (eqb (length cs) cosine_count)) (some (λ c. not (within_one c)) cs) h))

module _ (m : Mesh) (ones twos : List Float) (e : EarlyPassed m ones twos) where
  abbrev a : Accepted m
  a = accepted m e.accepted

  pub same_faces : faces m ≡ triangles m.corners
  same_faces = faces_triangles m a.sound (all_three m e.triangles)

  -- no face is folded, and each position is in some face
  unfolded : some folded (triangles m.corners) ≡ false
  unfolding folded_or_idle
  unfolded =
      ap (some folded) (sym same_faces) ∙ or_false_left (some folded (faces m)) (not (all_used (position_count m) (faces m))) e.unfolded

  used : all_used (position_count m) (triangles m.corners) ≡ true
  unfolding folded_or_idle
  used =
      ap (all_used (position_count m)) (sym same_faces)
      ∙ not-false (all_used (position_count m) (faces m))
      (or_false_right (some folded (faces m)) (not (all_used (position_count m) (faces m))) e.unfolded)

  pub checked : Checked m.positions m.corners m.sizes ones twos
  checked =
      let t : Triangular m.corners (position_count m) = triangular_mesh m e.accepted (all_three m e.triangles) in
      record {
        triangular = t;
        points = a.whole.positions;
        faces = omega (arith, a.sound.adds, sum_threes m.sizes (all_three m e.triangles));
        few = a.limits.sizes;
        smoothable = triangular_smoothable m.corners (position_count m) t unfolded;
        used = used;
        ones_long = fit_long ones e.ones_fit;
        twos_long = fit_long twos e.twos_fit;
      }
