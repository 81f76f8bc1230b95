-- One column of a mesh that is compacted, and its corners: each column of the result is that column renumbered. Assumes nothing.
use mathlib.Core.Path.{◌≡◌, refl, sym, ap, ◌∙◌}
use mathlib.Core.Bool.{true}
use mathlib.Core.List.{List, [], ◌∷◌, ◌++◌, map, map-map, map-append}
use Prim.Native.Nat.{ℕ, zero, suc, ◌≤◌, ◌<◌}
use native.Mathlib.Nat.{not-suc-le-zero, le_of_suc-le-suc}
use native.Mathlib.Omega.{arith}
use lib.ListN.{length, get_or, length-map}
use lib.Ieee.{Float}
use Rattle.lists.specs.Lists.{every, has, joined}
use Rattle.lists.proofs.Bools.{and_both}
use Rattle.lists.proofs.Members.{in_head, in_tail}
use Rattle.mesh.specs.Mesh.{Mesh, Corner, Ring, position, texture, normal, mark, missing, corners_in}
use Rattle.mesh.proofs.Corners.{is_corner, corners_in-joined}
use Rattle.mesh.proofs.Faces.{is_ring}
use Rattle.unused.specs.Compaction.{uses_of, renumber, entries, used_positions, used_textures, used_normals, renumbered, compacted}
use Rattle.unused.specs.Promises.{MarkKept, MarksKept}
use Rattle.unused.specs.Working.{column, Pointed}
use Rattle.unused.proofs.Uses.{uses_few, uses_below}
use Rattle.unused.proofs.Entries.{entries_again}
use Rattle.unused.proofs.Renumbering.{uses_again, renumber_again, renumber_uses}

-- ---- one column

module _ {attrs : List Float} {w : ℕ} {cs : List ℕ} {q : ℕ} (p : Pointed attrs w cs q) where
  pub used_few : length (uses_of (column q cs)) ≤ p.count
  used_few = uses_few p.count (column q cs) p.within

  pub used_small : length (uses_of (column q cs)) ≤ missing
  used_small = omega (arith, used_few, p.few)

  -- the entries that the renumbered column uses are those that there are
  pub entries_twice :
      (l : List ℕ) → l ≡ map (renumber (uses_of (column q cs))) (column q cs)
      → entries w (entries w attrs (uses_of (column q cs))) (uses_of l) ≡ entries w attrs (uses_of (column q cs))
  entries_twice l e =
      let us = uses_of (column q cs) in
      ap (λ (t : List ℕ). entries w (entries w attrs us) t)
      (ap uses_of e ∙ uses_again (column q cs) used_small ∙ renumber_uses (column q cs))
      ∙ entries_again attrs w p.count us p.whole (uses_below p.count (column q cs) p.within) us (λ v h. h)

  -- and a corner that is renumbered keeps its number
  pub number_twice :
      (l : List ℕ) → l ≡ map (renumber (uses_of (column q cs))) (column q cs) → (i : ℕ) → has i (column q cs) ≡ true
      → renumber (uses_of l) (renumber (uses_of (column q cs)) i) ≡ renumber (uses_of (column q cs)) i
  number_twice l e i h =
      ap (λ (t : List ℕ). renumber (uses_of t) (renumber (uses_of (column q cs)) i)) e
      ∙ renumber_again (column q cs) used_small i h

-- ---- the new corners

module _ (m : Mesh) where
  pub new_corners : (l : Ring) → every is_corner (map (renumbered m) l) ≡ true
  unfolding renumbered
  new_corners [] = refl
  new_corners (c ∷ l) = new_corners l

  pub new_rings : (fs : List Ring) → every is_ring (map (map (renumbered m)) fs) ≡ true
  new_rings [] = refl
  new_rings (f ∷ fs) =
      and_both (is_ring (map (renumbered m) f)) (every is_ring (map (map (renumbered m)) fs)) (new_corners f) (new_rings fs)

  -- corner by corner they are those that were given, renumbered
  pub corners_compacted : corners_in (compacted m).corners ≡ map (renumbered m) (corners_in m.corners)
  unfolding compacted
  corners_compacted = corners_in-joined (map (renumbered m) (corners_in m.corners)) (new_corners (corners_in m.corners))

  -- so each column is that column renumbered
  pub positions_renumbered :
      map position (corners_in (compacted m).corners) ≡ map (renumber (used_positions m)) (map position (corners_in m.corners))
  unfolding renumbered
  positions_renumbered =
      ap (map position) corners_compacted
      ∙ map-map position (renumbered m) (corners_in m.corners)
      ∙ sym (map-map (renumber (used_positions m)) position (corners_in m.corners))

  pub textures_renumbered :
      map texture (corners_in (compacted m).corners) ≡ map (renumber (used_textures m)) (map texture (corners_in m.corners))
  unfolding renumbered
  textures_renumbered =
      ap (map texture) corners_compacted
      ∙ map-map texture (renumbered m) (corners_in m.corners)
      ∙ sym (map-map (renumber (used_textures m)) texture (corners_in m.corners))

  pub normals_renumbered :
      map normal (corners_in (compacted m).corners) ≡ map (renumber (used_normals m)) (map normal (corners_in m.corners))
  unfolding renumbered
  normals_renumbered =
      ap (map normal) corners_compacted
      ∙ map-map normal (renumbered m) (corners_in m.corners)
      ∙ sym (map-map (renumber (used_normals m)) normal (corners_in m.corners))

  -- and the marks are those that were given
  pub mark_kept : MarkKept m
  unfolding renumbered
  mark_kept c = refl

  pub marks_kept : MarksKept m
  unfolding renumbered
  marks_kept = ap (map mark) corners_compacted ∙ map-map mark (renumbered m) (corners_in m.corners)

-- what a column has of a corner stands in the column
pub its_number : (f : Corner → ℕ) (l : Ring) (k : ℕ) → k < length l → has (f (get_or l k [])) (map f l) ≡ true
its_number f [] k h = absurd (not-suc-le-zero h)
its_number f (c ∷ l) zero h = in_head (f c) (map f l)
its_number f (c ∷ l) (suc k) h = in_tail (f (get_or l k [])) (f c) (map f l) (its_number f l k (le_of_suc-le-suc h))

-- ---- faces, one after the other

module _ (r : Corner → Corner) where
  pub joined_map : (fs : List Ring) → joined (map (map r) fs) ≡ map r (joined fs)
  joined_map [] = refl
  joined_map (f ∷ fs) = ap (λ (l : Ring). map r f ++ l) (joined_map fs) ∙ sym (map-append r f (joined fs))

  pub lengths_map : (fs : List Ring) → map length (map (map r) fs) ≡ map length fs
  lengths_map [] = refl
  lengths_map (f ∷ fs) =
      ap (λ (n : ℕ). n ∷ map length (map (map r) fs)) (length-map f r) ∙ ap (λ (l : List ℕ). length f ∷ l) (lengths_map fs)
