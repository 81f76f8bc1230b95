-- The examples, by computation. Of the same faces each mark has the same number of corners, and one mesh has a dart and the other none.
-- Assumes nothing.
use mathlib.Core.Path.{◌≡◌, refl}
use Prim.Native.Nat.{ℕ}
use native.Mathlib.Omega.{arith}
use lib.Dec.{eqb}
use Rattle.lists.specs.Numbers.{seek}
use Rattle.mesh.specs.Mesh.{Corner, mark, faces}
use Rattle.mesh.specs.Table.{over_limits, uneven, misfit, ungrouped, astray, shape_number, mesh_number}
use Rattle.grouping.specs.Push.{pushed}
use Rattle.splitting.specs.Splitting.{folded_by, mate_of, first_mated, split_by_in, split_by, pieces_by}
use Rattle.folding.specs.Folding.{fold_of, quadrangle_pieces, pieces}
use Rattle.removal.specs.Folded.{removed, unfolded_mesh}
use Rattle.unused.specs.Compaction.{renumbered, compacted}
use Rattle.cleaning.specs.Cleaning.{cleaned}
use Rattle.order.specs.Same.{Same, none, face, swap, then}
use Rattle.order.specs.Pairs.{recut}
use Rattle.order.proofs.Counted.{same_count}
use Rattle.marks.specs.Marks.{remarked_mesh, unmarked}
use Rattle.marks.specs.Examples.{MarksAfterCleaning, darted, DartDoesNotMatter}
use Rattle.marks.proofs.Order.{order_is_free_but_for_marks}

pub marks_after_cleaning : MarksAfterCleaning
unfolding cleaned unfolded_mesh removed pushed pieces fold_of quadrangle_pieces folded_by seek mate_of first_mated split_by_in split_by pieces_by faces compacted renumbered
marks_after_cleaning = record { of_quadrangle = refl; of_ring = refl }

both_accepted : (mesh_number darted ≡ 0) × (mesh_number recut ≡ 0)
unfolding mesh_number shape_number over_limits uneven misfit ungrouped astray
both_accepted = (refl, refl)

-- edges of the same faces whose first corner is a dart
one_dart : Same (faces darted) (faces recut) → ⊥
unfolding faces
one_dart s = let e : ◌≡◌ {A = ℕ} 1 0 = same_count (λ (e : Corner × Corner). eqb (mark e.0) 1) s in omega arith

same_unmarked : Same (faces (unmarked darted)) (faces (unmarked recut))
unfolding faces remarked_mesh
same_unmarked = then swap (face (1, refl) (face (2, refl) none))

pub dart_does_not_matter : DartDoesNotMatter
dart_does_not_matter = record {
  both_accepted = both_accepted;
  not_the_same = one_dart;
  the_same_unmarked = same_unmarked;
  agree = order_is_free_but_for_marks darted recut both_accepted.0 both_accepted.1 same_unmarked;
}
