-- Every sensible order of steps. What is removed and compacted is left alone by both steps from then on; compactions before the first
-- removal do not matter, nor do removals between it and the first compaction behind it. Assumes nothing.
use mathlib.Core.Path.{◌≡◌, refl, sym, ap, ◌∙◌}
use mathlib.Core.Bool.{true}
use mathlib.Core.List.{List, [], ◌∷◌, map}
use native.Mathlib.Nat.{le_of_eq}
use lib.ListN.{length}
use Rattle.lists.specs.Lists.{some, each, joined}
use Rattle.lists.proofs.Bools.{true_false}
use Rattle.mesh.specs.Mesh.{Mesh, mesh_of, Ring, faces}
use Rattle.mesh.specs.Table.{mesh_number}
use Rattle.mesh.proofs.Faces.{sizes_back, corners_back}
use Rattle.mesh.proofs.Accepted.{accepted}
use Rattle.removal.specs.Folded.{removed, unfolded_mesh}
use Rattle.removal.proofs.Accepted.{faces_unfolded, removed_accepted}
use Rattle.unused.specs.Compaction.{renumbered, compacted}
use Rattle.unused.proofs.Laws.{accepted_compacted, faces_compacted}
use Rattle.unused.proofs.Again.{compacted_again}
use Rattle.cleaning.specs.Cleaning.{cleaned}
use Rattle.cleaning.proofs.Cleaned.{cleaned_accepted}
use Rattle.anyorder.specs.Orders.{Step, Remove, Compact, stepped, cleaned_by, compacts, sensible}
use Rattle.anyorder.specs.Promises.{OrderOfCleaningIsFree}
use Rattle.anyorder.proofs.Removal.{removed_again, unfolded_again}
use Rattle.anyorder.proofs.Cleaning.{removed_compacted, origins_compacted, compacting_first}

-- where removal leaves the faces, it leaves the mesh
unfolded_stays : (m : Mesh) → mesh_number m ≡ 0 → removed (faces m) ≡ faces m → unfolded_mesh m ≡ m
unfolding unfolded_mesh faces
unfolded_stays m z e =
    let adds = (accepted m z).sound.adds in
    let c : each joined (removed (faces m)) ≡ m.corners = ap (each joined) e ∙ corners_back m.sizes m.corners adds in
    let s : map length (removed (faces m)) ≡ m.sizes = ap (map length) e ∙ sizes_back m.sizes m.corners (le_of_eq adds) in
    λ i. mesh_of m.positions m.textures m.normals (c i) (s i)

module _ (m : Mesh) (z : mesh_number m ≡ 0) where
  abbrev left : Mesh
  left = unfolded_mesh m

  left_accepted : mesh_number (unfolded_mesh m) ≡ 0
  left_accepted = removed_accepted m z

  -- a clean mesh is left alone by both
  removing_stays : unfolded_mesh (cleaned m) ≡ cleaned m
  unfolding cleaned
  removing_stays =
      unfolded_stays (cleaned m) (cleaned_accepted m z)
      (removed_compacted left left_accepted
      ∙ ap (λ (fs : List Ring). map (map (renumbered left)) fs) (ap removed (faces_unfolded m) ∙ removed_again (faces m) ∙ sym (faces_unfolded m))
      ∙ sym (faces_compacted left left_accepted))

  compacting_stays : compacted (cleaned m) ≡ cleaned m
  unfolding cleaned
  compacting_stays = compacted_again left left_accepted

  pub clean_stays : (s : Step) → stepped s (cleaned m) ≡ cleaned m
  clean_stays Remove = removing_stays
  clean_stays Compact = compacting_stays

  clean_rests : (ss : List Step) → cleaned_by ss (cleaned m) ≡ cleaned m
  clean_rests [] = refl
  clean_rests (s ∷ ss) = ap (cleaned_by ss) (clean_stays s) ∙ clean_rests ss

  -- behind a removal
  then_compacted : (ss : List Step) → some compacts ss ≡ true → cleaned_by ss (unfolded_mesh m) ≡ cleaned m
  unfolding cleaned
  then_compacted [] h = true_false (sym h)
  then_compacted (Remove ∷ ss) h = ap (cleaned_by ss) (unfolded_again m) ∙ then_compacted ss h
  then_compacted (Compact ∷ ss) h = clean_rests ss

-- one step before cleaning
first_compacted : (m : Mesh) → mesh_number m ≡ 0 → cleaned (compacted m) ≡ cleaned m
unfolding cleaned
first_compacted m z = compacting_first m z

first_removed : (m : Mesh) → cleaned (unfolded_mesh m) ≡ cleaned m
unfolding cleaned
first_removed m = ap compacted (unfolded_again m)

pub every_order : (m : Mesh) → mesh_number m ≡ 0 → (ss : List Step) → sensible ss ≡ true → cleaned_by ss m ≡ cleaned m
every_order m z [] h = true_false (sym h)
every_order m z (Remove ∷ ss) h = then_compacted m z ss h
every_order m z (Compact ∷ ss) h = every_order (compacted m) (accepted_compacted m z) ss h ∙ first_compacted m z

-- any steps before cleaning
then_clean : (m : Mesh) → mesh_number m ≡ 0 → (ss : List Step) → cleaned (cleaned_by ss m) ≡ cleaned m
then_clean m z [] = refl
then_clean m z (Remove ∷ ss) = then_clean (unfolded_mesh m) (removed_accepted m z) ss ∙ first_removed m
then_clean m z (Compact ∷ ss) = then_clean (compacted m) (accepted_compacted m z) ss ∙ first_compacted m z

pub order_of_cleaning_is_free : OrderOfCleaningIsFree
order_of_cleaning_is_free m z = record {
  compacting_first = compacting_first m z;
  removing_again = unfolded_again m;
  compacting_again = compacted_again m z;
  same_origins = origins_compacted m z;
  same_faces = removed_compacted m z;
  one_result = every_order m z;
  stays = clean_stays m z;
  before_cleaning = then_clean m z;
}
