-- Compaction renumbers the positions one-to-one, and each keeps its point. Assumes nothing.
use mathlib.Core.Path.{◌≡◌, refl, sym, ap, ◌∙◌}
use mathlib.Core.Bool.{true, false}
use mathlib.Core.List.{List, [], ◌∷◌, ◌++◌, map, map-append}
use Prim.Native.Nat.{ℕ, ◌*◌, ◌/◌, ◌<◌}
use native.Mathlib.Omega.{arith}
use lib.Dec.{eqb}
use lib.ListN.{length, get_or, length-map, get_or-map}
use borrow.Author.Tests.{ne_eqb, eqb-true}
use Rattle.lists.specs.Lists.{has, joined}
use Rattle.lists.specs.FirstUses.{place}
use Rattle.lists.proofs.Bools.{by_cases}
use Rattle.lists.proofs.Counting.{clash}
use Rattle.lists.proofs.Parts.{some_none}
use Rattle.lists.proofs.Places.{place_below, get_or-place}
use Rattle.mesh.specs.Limits.{width, point_width}
use Rattle.mesh.specs.Mesh.{Mesh, Ring, position, missing, corners_in, faces, position_count}
use Rattle.mesh.specs.Edges.{Edged}
use Rattle.mesh.specs.Table.{mesh_number}
use Rattle.mesh.proofs.Corners.{length-corners_in, get_or-corners_in}
use Rattle.mesh.proofs.Edges.{edged}
use Rattle.unused.specs.Compaction.{uses_of, renumber, used_positions, compacted}
use Rattle.unused.proofs.Uses.{uses_below}
use Rattle.unused.proofs.Entries.{entry_again}
use Rattle.unused.proofs.Renumbering.{renumber_present, used}
use Rattle.unused.proofs.Accepting.{pointed_positions}
use Rattle.unused.proofs.Laws.{face_order, face_positions, position_same}
use Rattle.renumbered.specs.Renumbered.{positions_of, Renumbers}
use Rattle.renumbered.specs.Points.{point_at, SamePoints}

pub joined_positions : (fs : List Ring) → positions_of fs ≡ map position (joined fs)
joined_positions [] = refl
joined_positions (f ∷ fs) = ap (λ (l : List ℕ). map position f ++ l) (joined_positions fs) ∙ sym (map-append position f (joined fs))

-- no position of an accepted mesh is the missing mark
pub none_missing : (m : Mesh) → mesh_number m ≡ 0 → has missing (map position (corners_in m.corners)) ≡ false
none_missing m z =
    some_none (eqb missing) 0 (map position (corners_in m.corners))
    (λ k l. ne_eqb missing (get_or (map position (corners_in m.corners)) k 0) (λ e. above k l e))
  where
    above : (k : ℕ) → k < length (map position (corners_in m.corners)) → missing ≡ get_or (map position (corners_in m.corners)) k 0 → ⊥
    above k l e =
        let d : Edged m.corners m.sizes (position_count m) = edged m z in
        let j : k < length m.corners / width = omega (arith, length-map (corners_in m.corners) position, length-corners_in m.corners) in
        let p : get_or (map position (corners_in m.corners)) k 0 ≡ get_or m.corners (width * k) 0 =
        get_or-map position (corners_in m.corners) k [] ∙ ap position (get_or-corners_in m.corners k j) in
        omega (arith, d.few, d.below k j)

module _ (m : Mesh) (z : mesh_number m ≡ 0) where
  -- the positions of the faces are those of the corners
  cornered : (i : ℕ) → has i (positions_of (faces m)) ≡ true → has i (map position (corners_in m.corners)) ≡ true
  cornered i h = ap (has i) (sym (joined_positions (faces m) ∙ ap (map position) (face_order m z))) ∙ h

  pub compaction_renumbers : Renumbers (renumber (used_positions m)) (faces m) (faces (compacted m))
  compaction_renumbers = record {
    positions = face_positions m z;
    one_to_one = λ i j h k. position_same m z i j (cornered i h) (cornered j k);
  }

  present_there : (i : ℕ) → has i (map position (corners_in m.corners)) ≡ true → eqb i missing ≡ false
  present_there i h =
      by_cases (eqb i missing)
      (λ p. clash h (ap (λ (j : ℕ). has j (map position (corners_in m.corners))) (eqb-true i missing p) ∙ none_missing m z))
      (λ p. p)

  pub compaction_points : SamePoints (renumber (used_positions m)) m (compacted m)
  unfolding compacted used_positions
  compaction_points i h =
      let c = cornered i h in
      let l = map position (corners_in m.corners) in
      let p = pointed_positions m z in
      let o : has i (uses_of l) ≡ true = used l i c (present_there i c) in
      ap (point_at (compacted m)) (renumber_present (uses_of l) i (present_there i c))
      ∙ entry_again m.positions point_width p.count (uses_of l) p.whole (uses_below p.count l p.within) (place (uses_of l) i)
      (place_below (uses_of l) i o)
      ∙ ap (point_at m) (get_or-place (uses_of l) i o)
