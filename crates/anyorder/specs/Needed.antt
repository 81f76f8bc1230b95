-- Why an order has to be sensible and a mesh accepted, and what changes all the same: small meshes on which it is otherwise. Proved in proofs/,
-- by computation. Assumes nothing.
use Rattle.std.specs.Prelude.{◌≡◌, false, List, [], ◌∷◌, ℕ, replicate, pos}
use Rattle.std.specs.Float.{fin}
use Rattle.lists.specs.Lists.{each}
use Rattle.mesh.specs.Mesh.{Mesh, mesh_of, Corner, missing, faces}
use Rattle.mesh.specs.Table.{shape_number, mesh_number}
use Rattle.removal.specs.Folded.{removed, unfolded_mesh}
use Rattle.removal.specs.Origins.{origins_of}
use Rattle.unused.specs.Compaction.{compacted}
use Rattle.cleaning.specs.Cleaning.{cleaned}
use Rattle.anyorder.specs.Orders.{Step, Remove, Compact, cleaned_by, sensible}

-- a corner by its position: texture and normal are missing, and it has no mark
abbrev bare : ℕ → Corner
bare p = p ∷ missing ∷ missing ∷ 0 ∷ []

-- two positions, both the origin, and the one face (0,0,1), which is folded
abbrev pub one_fold : Mesh
one_fold = mesh_of (replicate 6 (fin false 0 (pos 0))) [] [] (each bare (0 ∷ 0 ∷ 1 ∷ [])) (3 ∷ [])

-- compacting and then removing, where no compaction comes behind the removal; compacting only; removing only: on this accepted mesh each
-- leaves something else than removing and compacting
pub record OrderMatters : Type 0 where
  pub accepted : mesh_number one_fold ≡ 0
  pub removing_last : cleaned_by (Compact ∷ Remove ∷ []) one_fold ≡ cleaned one_fold → ⊥
  pub only_compacting : cleaned_by (Compact ∷ []) one_fold ≡ cleaned one_fold → ⊥
  pub only_removing : cleaned_by (Remove ∷ []) one_fold ≡ cleaned one_fold → ⊥
  -- and so does every order that is not sensible
  pub not_sensible : (ss : List Step) → sensible ss ≡ false → cleaned_by ss one_fold ≡ cleaned one_fold → ⊥
  -- and removing once changes something
  pub removing_once : unfolded_mesh one_fold ≡ one_fold → ⊥

-- three positions and the faces (2,2,1), which is folded, and (2,1,0): compaction before the removal gives the face that is left other numbers,
-- and a second removal numbers the faces that the first one left
abbrev pub fold_and_face : Mesh
fold_and_face = mesh_of (replicate 9 (fin false 0 (pos 0))) [] [] (each bare (2 ∷ 2 ∷ 1 ∷ 2 ∷ 1 ∷ 0 ∷ [])) (3 ∷ 3 ∷ [])

pub record NumbersChange : Type 0 where
  pub accepted : mesh_number fold_and_face ≡ 0
  pub other_numbers : removed (faces (compacted fold_and_face)) ≡ removed (faces fold_and_face) → ⊥
  pub other_origins : origins_of (faces (unfolded_mesh fold_and_face)) ≡ origins_of (faces fold_and_face) → ⊥

-- three positions and the faces (3,3,0), which is folded, and (0,1,2): a mesh that is in order but for the index 3, which points at nothing
abbrev pub astray_fold : Mesh
astray_fold = mesh_of (replicate 9 (fin false 0 (pos 0))) [] [] (each bare (3 ∷ 3 ∷ 0 ∷ 0 ∷ 1 ∷ 2 ∷ [])) (3 ∷ 3 ∷ [])

-- on it compacting first makes a difference: it earns 5, and no call takes it
pub record AcceptedMatters : Type 0 where
  pub shaped : shape_number astray_fold ≡ 0
  pub refused : mesh_number astray_fold ≡ 5
  pub compacting_first : compacted (unfolded_mesh (compacted astray_fold)) ≡ compacted (unfolded_mesh astray_fold) → ⊥
