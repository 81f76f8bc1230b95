-- No mark of the mesh that cleaning leaves is above those of the mesh: a corner that is left has the mark that it had. Assumes nothing.
use mathlib.Core.Path.{◌≡◌, refl, sym, ap, ap₂, ◌∙◌}
use mathlib.Core.Bool.{Bool, true, ◌&&◌}
use mathlib.Core.List.{List, [], ◌∷◌, map}
use Prim.Native.Nat.{ℕ, ◌+◌, ◌*◌, ◌/◌, ◌≤◌, ◌<◌}
use native.Mathlib.Omega.{arith}
use lib.ListN.{length, get_or-eq_default}
use lib.Dec.{leb, ltb}
use borrow.Author.Tests.{le-leb, leb-true, ltb-true, ltb-false}
use Rattle.lists.specs.Lists.{every}
use Rattle.lists.proofs.Bools.{by_cases}
use Rattle.lists.proofs.Mapping.{every_map, every_all}
use Rattle.lists.proofs.Parts.{every_at, every_joined}
use Rattle.mesh.specs.Limits.{width}
use Rattle.mesh.specs.Mesh.{Mesh, Corner, Ring, mark, corner_at, corners_in, faces}
use Rattle.mesh.specs.Table.{mesh_number}
use Rattle.mesh.proofs.Corners.{length-corners_in, get_or-corners_in}
use Rattle.removal.specs.Folded.{removed}
use Rattle.removal.proofs.Result.{removed_corners}
use Rattle.unused.proofs.Laws.{face_order}
use Rattle.cleaning.specs.Cleaning.{cleaned}
use Rattle.cleaning.proofs.Cleaned.{cleaned_accepted, marks_stay}

-- no mark of a flat list of corners is above n
abbrev pub MarksUpTo : ℕ → List ℕ → Type 0
MarksUpTo n cs = (k : ℕ) → mark (corner_at cs k) ≤ n

module _ (n : ℕ) where
  -- the same as a test of one mark, and of one corner
  abbrev pub up_to : ℕ → Bool
  up_to x = leb x n

  abbrev pub low : Corner → Bool
  low c = up_to (mark c)

  corners_low : (cs : List ℕ) → MarksUpTo n cs → every low (corners_in cs) ≡ true
  corners_low cs h =
      every_all low [] (corners_in cs)
      (λ k l.
      let e : length (corners_in cs) ≡ length cs / width = length-corners_in cs in
      rw (get_or-corners_in cs k (omega arith)) (le-leb (mark (corner_at cs k)) n (h k)))

  low_corners : (cs : List ℕ) → every low (corners_in cs) ≡ true → MarksUpTo n cs
  low_corners cs h k =
      let e : length (corners_in cs) ≡ length cs / width = length-corners_in cs in
      by_cases (ltb k (length cs / width))
      (λ t.
      let l : k < length cs / width = ltb-true k (length cs / width) t in
      leb-true (mark (corner_at cs k)) n (ap low (sym (get_or-corners_in cs k l)) ∙ every_at low [] (corners_in cs) k h (omega arith)))
      (λ t. rw (get_or-eq_default cs 0 {n = width * k + 3} (omega (arith, ltb-false k (length cs / width) t))) (omega arith))

  marks_low : (fs : List Ring) → every (every up_to) (map (map mark) fs) ≡ every (every low) fs
  marks_low [] = refl
  marks_low (f ∷ fs) = ap₂ ◌&&◌ (every_map mark up_to f) (marks_low fs)

  -- face by face, of an accepted mesh
  pub faces_low : (m : Mesh) → mesh_number m ≡ 0 → MarksUpTo n m.corners → every (every low) (faces m) ≡ true
  faces_low m ok h = sym (every_joined low (faces m)) ∙ ap (every low) (face_order m ok) ∙ corners_low m.corners h

  pub low_faces : (m : Mesh) → mesh_number m ≡ 0 → every (every up_to) (map (map mark) (faces m)) ≡ true → MarksUpTo n m.corners
  low_faces m ok h =
      low_corners m.corners (ap (every low) (sym (face_order m ok)) ∙ every_joined low (faces m) ∙ sym (marks_low (faces m)) ∙ h)

  pub cleaned_marks : (m : Mesh) → mesh_number m ≡ 0 → MarksUpTo n m.corners → MarksUpTo n (cleaned m).corners
  cleaned_marks m ok h =
      low_faces (cleaned m) (cleaned_accepted m ok)
      (ap (every (every up_to)) (marks_stay m ok) ∙ marks_low (removed (faces m)) ∙ removed_corners low (faces m) (faces_low m ok h))
