-- An order that is not sensible gives another mesh: positions are left that no face uses, or a folded face is. Numbers change with compaction,
-- and origins with a second removal. And of a mesh that is not accepted it does not hold. By computation. Assumes nothing.
use mathlib.Core.Path.{◌≡◌, refl, sym, ap, ◌∙◌}
use mathlib.Core.Bool.{false}
use mathlib.Core.List.{List, [], ◌∷◌}
use Rattle.lists.specs.Lists.{some}
use Rattle.lists.proofs.Bools.{true_false}
use Prim.Native.Nat.{ℕ, ◌*◌}
use native.Mathlib.Omega.{arith}
use lib.ListN.{length, get_or}
use Rattle.lists.specs.FirstUses.{first_uses, place}
use Rattle.mesh.specs.Limits.{width}
use Rattle.mesh.specs.Mesh.{Mesh, Ring, position, faces}
use Rattle.mesh.specs.Table.{over_limits, uneven, misfit, ungrouped, astray, shape_number, mesh_number}
use Rattle.grouping.specs.Push.{pushed}
use Rattle.grouping.specs.Tags.{pushed_beside}
use Rattle.splitting.specs.Splitting.{folded_by}
use Rattle.folding.specs.Folding.{triangle_pieces, pieces}
use Rattle.removal.specs.Folded.{removed, unfolded_mesh}
use Rattle.removal.specs.Origins.{numbered, origins_of}
use Rattle.unused.specs.Compaction.{renumber, entries, used_positions, used_textures, used_normals, renumbered, compacted}
use Rattle.cleaning.specs.Cleaning.{cleaned}
use Rattle.anyorder.specs.Orders.{Step, Remove, Compact, compacts, cleaned_by, sensible}
use Rattle.anyorder.specs.Needed.{one_fold, OrderMatters, fold_and_face, NumbersChange, astray_fold, AcceptedMatters}

-- meshes with another number of coordinates are not the same
unlike : (m n : Mesh) → (length m.positions ≡ length n.positions → ⊥) → m ≡ n → ⊥
unlike m n h e = h (ap (λ (x : Mesh). length x.positions) e)

-- ---- the number that each mesh earns

fold_accepted : mesh_number one_fold ≡ 0
unfolding mesh_number shape_number over_limits uneven misfit ungrouped astray
fold_accepted = refl

face_accepted : mesh_number fold_and_face ≡ 0
unfolding mesh_number shape_number over_limits uneven misfit ungrouped astray
face_accepted = refl

astray_shaped : shape_number astray_fold ≡ 0
unfolding shape_number over_limits uneven misfit ungrouped
astray_shaped = refl

astray_refused : mesh_number astray_fold ≡ 5
unfolding mesh_number shape_number over_limits uneven misfit ungrouped astray
astray_refused = refl

-- ---- an order that is not sensible leaves both positions: compactions leave the one fold as it is, and removals leave the positions

positions_stay : (ss : List Step) (m : Mesh) → some compacts ss ≡ false → (cleaned_by ss (unfolded_mesh m)).positions ≡ m.positions
unfolding unfolded_mesh
positions_stay [] m h = refl
positions_stay (Remove ∷ ss) m h = positions_stay ss (unfolded_mesh m) h
positions_stay (Compact ∷ ss) m h = true_false h

fold_compact : compacted one_fold ≡ one_fold
unfolding compacted renumbered used_positions used_textures used_normals entries renumber place first_uses
fold_compact = refl

both_left : (ss : List Step) → sensible ss ≡ false → (cleaned_by ss one_fold).positions ≡ one_fold.positions
both_left [] h = refl
both_left (Remove ∷ ss) h = positions_stay ss one_fold h
both_left (Compact ∷ ss) h = ap (λ (m : Mesh). (cleaned_by ss m).positions) fold_compact ∙ both_left ss h

none_left : length (cleaned one_fold).positions ≡ 0
unfolding cleaned unfolded_mesh removed pushed pieces triangle_pieces folded_by faces compacted renumbered used_positions used_textures used_normals entries renumber place first_uses
none_left = refl

never_clean : (ss : List Step) → sensible ss ≡ false → cleaned_by ss one_fold ≡ cleaned one_fold → ⊥
never_clean ss h e =
    let z : ◌≡◌ {A = ℕ} 6 0 = ap length (sym (both_left ss h)) ∙ ap (λ (m : Mesh). length m.positions) e ∙ none_left in omega arith

-- ---- nothing is left of the one fold where it is cleaned; both positions are, where the removal comes last, and where there is none

pub order_matters : OrderMatters
unfolding cleaned unfolded_mesh removed pushed pieces triangle_pieces folded_by faces compacted renumbered used_positions used_textures used_normals entries renumber place first_uses
order_matters = record {
  accepted = fold_accepted;
  removing_last = unlike _ _ (λ e. let z : ◌≡◌ {A = ℕ} 6 0 = e in omega arith);
  only_compacting = unlike _ _ (λ e. let z : ◌≡◌ {A = ℕ} 6 0 = e in omega arith);
  only_removing = unlike _ _ (λ e. let z : ◌≡◌ {A = ℕ} 6 0 = e in omega arith);
  not_sensible = never_clean;
  removing_once = λ e. let z : ◌≡◌ {A = ℕ} 0 (3 * width) = ap (λ (m : Mesh). length m.corners) e in omega arith;
}

-- ---- of the fold and the face (2,1,0) is left, the second face; compacted before it is (0,1,2); a second removal says that it is the first face

other_numbers : removed (faces (compacted fold_and_face)) ≡ removed (faces fold_and_face) → ⊥
unfolding removed pushed pieces triangle_pieces folded_by faces compacted renumbered used_positions used_textures used_normals entries renumber place first_uses
other_numbers e = let z : ◌≡◌ {A = ℕ} 0 2 = ap (λ (fs : List Ring). position (get_or (get_or fs 0 []) 0 [])) e in omega arith

other_origins : origins_of (faces (unfolded_mesh fold_and_face)) ≡ origins_of (faces fold_and_face) → ⊥
unfolding unfolded_mesh removed origins_of numbered pushed_beside pushed pieces triangle_pieces folded_by faces
other_origins e = let z : ◌≡◌ {A = ℕ} 0 1 = ap (λ (os : List ℕ). get_or os 0 0) e in omega arith

pub numbers_change : NumbersChange
numbers_change = record { accepted = face_accepted; other_numbers = other_numbers; other_origins = other_origins }

-- ---- an index that points at nothing: compaction leaves out its entry, so that the numbers behind it point at others

pub accepted_matters : AcceptedMatters
unfolding unfolded_mesh removed pushed pieces triangle_pieces folded_by faces compacted renumbered used_positions used_textures used_normals entries renumber place first_uses
accepted_matters = record {
  shaped = astray_shaped;
  refused = astray_refused;
  compacting_first = unlike _ _ (λ e. let z : ◌≡◌ {A = ℕ} 6 9 = e in omega arith);
}
