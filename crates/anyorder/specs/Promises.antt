-- Cleaning in any sensible order, as document 02, CR 10, has it, of the rules. Meshes are equal where all five lists are the same, number for
-- number and coordinate for coordinate: bit for bit, but that a coordinate which isn't a number is the one NaN of the language. Proved in
-- proofs/. Assumes nothing.
use Rattle.std.specs.Prelude.{◌≡◌, true, List, map}
use Rattle.mesh.specs.Mesh.{Mesh, faces}
use Rattle.mesh.specs.Table.{mesh_number}
use Rattle.removal.specs.Folded.{removed, unfolded_mesh}
use Rattle.removal.specs.Origins.{origins_of}
use Rattle.unused.specs.Compaction.{renumbered, compacted}
use Rattle.cleaning.specs.Cleaning.{cleaned}
use Rattle.anyorder.specs.Orders.{Step, stepped, cleaned_by, sensible}

pub record AnyOrder (m : Mesh) : Type 0 where
  -- compacting, removing and compacting again gives the same mesh as removing and compacting
  pub compacting_first : compacted (unfolded_mesh (compacted m)) ≡ compacted (unfolded_mesh m)
  -- removing a second time changes nothing
  pub removing_again : unfolded_mesh (unfolded_mesh m) ≡ unfolded_mesh m
  -- compacting a second time changes nothing
  pub compacting_again : compacted (compacted m) ≡ compacted m
  -- removing after compaction gives the same origin numbers as removing before it
  pub same_origins : origins_of (faces (compacted m)) ≡ origins_of (faces m)
  -- and the same faces, under the numbers that compaction gave their corners
  pub same_faces : removed (faces (compacted m)) ≡ map (map (renumbered m)) (removed (faces m))
  -- so every sensible order gives one mesh
  pub one_result : (ss : List Step) → sensible ss ≡ true → cleaned_by ss m ≡ cleaned m
  -- which both steps leave alone
  pub stays : (s : Step) → stepped s (cleaned m) ≡ cleaned m
  -- and whatever steps went before, removing and compacting gives that mesh
  pub before_cleaning : (ss : List Step) → cleaned (cleaned_by ss m) ≡ cleaned m

-- for every accepted mesh, coordinates that aren't numbers included: nothing is asked of them
abbrev pub OrderOfCleaningIsFree : Type 0
OrderOfCleaningIsFree = (m : Mesh) → mesh_number m ≡ 0 → AnyOrder m
