-- No mark of a smoothed mesh is above those of the mesh: an old corner has the mark that it had, and a new one has none. Assumes nothing.
use mathlib.Core.Path.{◌≡◌, refl, ap, ◌∙◌}
use mathlib.Core.Bool.{true}
use mathlib.Core.List.{List, [], ◌∷◌}
use Prim.Native.Nat.{ℕ, zero, suc}
use native.Mathlib.Omega.{arith}
use lib.ListN.{get_or}
use lib.Ieee.{Float}
use borrow.Author.Tests.{le-leb}
use Rattle.lists.specs.Lists.{every, each}
use Rattle.lists.proofs.Bools.{and_left, and_right, and_both}
use Rattle.lists.proofs.Parts.{every_append}
use Rattle.mesh.specs.Mesh.{Mesh, Ring, mark, faces}
use Rattle.mesh.specs.Table.{mesh_number}
use Rattle.opening.proofs.Marks.{MarksUpTo, up_to, low, faces_low, low_faces}
use Rattle.smoothed.specs.Promise.{smoothed_mesh, four_marks, Promised}

module _ (n : ℕ) where
  none_low : up_to n 0 ≡ true
  none_low = le-leb 0 n (omega arith)

  mark_low : (f : Ring) (k : ℕ) → every (low n) f ≡ true → up_to n (mark (get_or f k [])) ≡ true
  mark_low [] k h = none_low
  mark_low (c ∷ f) zero h = and_left (low n c) (every (low n) f) h
  mark_low (c ∷ f) (suc k) h = mark_low f k (and_right (low n c) (every (low n) f) h)

  four_low : (f : Ring) → every (low n) f ≡ true → every (every (up_to n)) (four_marks f) ≡ true
  four_low f h = rw (none_low, mark_low f 0 h, mark_low f 1 h, mark_low f 2 h)

  all_low : (fs : List Ring) → every (every (low n)) fs ≡ true → every (every (up_to n)) (each four_marks fs) ≡ true
  all_low [] h = refl
  all_low (f ∷ fs) h =
      every_append (every (up_to n)) (four_marks f) (each four_marks fs)
      ∙ and_both (every (every (up_to n)) (four_marks f)) (every (every (up_to n)) (each four_marks fs))
      (four_low f (and_left (every (low n) f) (every (every (low n)) fs) h))
      (all_low fs (and_right (every (low n) f) (every (every (low n)) fs) h))

  pub smoothed_marks :
      (m : Mesh) (ps : List Float) → mesh_number m ≡ 0 → Promised m ps → MarksUpTo n m.corners
      → MarksUpTo n (smoothed_mesh m ps).corners
  smoothed_marks m ps ok r h =
      low_faces n (smoothed_mesh m ps) r.accepted (ap (every (every (up_to n))) r.marks ∙ all_low (faces m) (faces_low n m ok h))
