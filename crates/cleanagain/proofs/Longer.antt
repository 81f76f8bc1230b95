-- The file of example 8 is read into its mesh, so that it and its cleaned file have as many bytes as the two meshes say. By computation.
-- Assumes nothing.
use mathlib.Core.Path.{◌≡◌, refl, ap, ◌∙◌}
use mathlib.Core.List.{[], ◌∷◌}
use Prim.Native.Nat.{ℕ, ◌+◌, ◌*◌, ◌≤◌}
use native.Mathlib.Omega.{arith}
use lib.ListN.{length, get_or, get_or-eq_default}
use lib.Dec.{leb, ltb}
use borrow.Author.Tests.{leb-true, ltb-true, ltb-false}
use lib.Ieee.{fits}
use Rattle.lists.specs.Numbers.{seek}
use Rattle.lists.specs.FirstUses.{first_uses, place}
use Rattle.lists.proofs.Bools.{by_cases}
use Rattle.lists.proofs.Parts.{every_at}
use Rattle.mesh.specs.Limits.{width, largest}
use Rattle.mesh.specs.Mesh.{Mesh, mesh_of, faces}
use Rattle.mesh.specs.Table.{over_limits, uneven, misfit, ungrouped, astray, shape_number, mesh_number, short}
use Rattle.floating.specs.Limits.{finite, all_finite}
use Rattle.grouping.specs.Push.{pushed}
use Rattle.splitting.specs.Splitting.{folded_by, mate_of, first_mated, split_by_in, split_by, pieces_by}
use Rattle.folding.specs.Folding.{pieces}
use Rattle.removal.specs.Folded.{removed, unfolded_mesh}
use Rattle.unused.specs.Compaction.{renumber, entries, used_positions, used_textures, used_normals, renumbered, compacted}
use Rattle.cleaning.specs.Cleaning.{cleaned}
use Rattle.cleaning.proofs.Cleaned.{cleaned_accepted}
use Rattle.records.specs.Records.{any_mark}
use Rattle.written.specs.Pieces.{file_of, face_bytes, file_length}
use Rattle.written.specs.Promises.{DoubleMesh, Reopens}
use Rattle.written.proofs.Parting.{file_is_long}
use Rattle.written.proofs.Reading.{doubles_are}
use Rattle.written.proofs.Reopened.{reopens}
use Rattle.cleanfile.specs.Cleaning.{clean_file}
use Rattle.cleanagain.specs.Longer.{example8, CleanedIsLonger}

ok : mesh_number example8 ≡ 0
unfolding mesh_number shape_number over_limits uneven misfit ungrouped astray
ok = refl

-- every number of its corners is one of 32 bits
number_small : (k : ℕ) → get_or example8.corners k 0 ≤ largest
number_small k =
    let cs = example8.corners in
    by_cases (ltb k (length cs))
    (λ e. leb-true (get_or cs k 0) largest (every_at (λ x. leb x largest) 0 cs k refl (ltb-true k (length cs) e)))
    (λ e. rw (get_or-eq_default cs 0 (ltb-false k (length cs) e)) (omega arith))

doubles : DoubleMesh example8
unfolding fits
doubles = record {
  positions = doubles_are example8.positions refl;
  textures = doubles_are [] refl;
  normals = doubles_are [] refl;
  marks = λ k. number_small (width * k + 3);
}

back : Reopens example8
unfolding all_finite finite
back = reopens example8 ok doubles refl

long : file_length example8 ≡ 221
unfolding file_length face_bytes any_mark faces
long = refl

-- the face is cut in two
abbrev two_triangles : Mesh
two_triangles = mesh_of example8.positions [] [] example8.corners (3 ∷ 3 ∷ [])

cut_in_two : unfolded_mesh example8 ≡ two_triangles
unfolding unfolded_mesh removed pushed pieces folded_by seek mate_of first_mated split_by_in split_by pieces_by faces
cut_in_two = refl

two_long : file_length (compacted two_triangles) ≡ 226
unfolding file_length face_bytes any_mark faces compacted renumbered used_positions used_textures used_normals entries renumber place first_uses
two_long = refl

longer : file_length (cleaned example8) ≡ 226
unfolding cleaned
longer = ap (λ (m : Mesh). file_length (compacted m)) cut_in_two ∙ two_long

pub cleaned_is_longer : CleanedIsLonger
unfolding clean_file short
cleaned_is_longer = record {
  reads = back.number [] refl;
  before = file_is_long example8 ok ∙ long;
  cleaned =
      ap (λ (m : Mesh). length (file_of (cleaned m))) back.mesh
      ∙ file_is_long (cleaned example8) (cleaned_accepted example8 ok)
      ∙ longer;
}
