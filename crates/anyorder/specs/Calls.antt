-- Cleaning in any sensible order, as document 02, CR 10, has it, of the calls: each with what was lent, what is there afterwards and what was
-- answered, any of it that the contract allows, and the next call on the mesh that it left. Lists that are lent have the stated room. Proved
-- in proofs/. Assumes nothing.
use Rattle.std.specs.Prelude.{◌≡◌, true, false, List, [], ◌∷◌, ℕ, ◌*◌, length, take, eqb}
use Rattle.lists.specs.Lists.{every}
use Rattle.mesh.specs.Limits.{point_width, texel_width}
use Rattle.mesh.specs.Mesh.{Mesh, mesh_of}
use Rattle.mesh.specs.Table.{mesh_number}
use Rattle.removal.specs.Folded as removal
use Rattle.unused.specs.Compaction.{Compacted}
use Rattle.unused.specs.Compaction as compaction
use Rattle.cleaning.specs.Promises.{handed_on}
use Rattle.anyorder.specs.Orders.{Step, Remove, Compact, sensible}

-- ---- `folded::remove_degenerate_faces`

pub record RemovalCall (m : Mesh) : Type 0 where
  pub before : removal.Result
  pub afterwards : removal.Result
  pub answer : removal.Removed
  pub contract : removal.Removal m before afterwards answer
  pub room : removal.too_short m before ≡ false

-- the mesh that it leaves: the attribute lists as they were, and what is written at the front of the two lists
abbrev pub left_by_removal : {m : Mesh} → RemovalCall m → Mesh
left_by_removal {m} r = handed_on m r.afterwards r.answer

-- the origins that it wrote
abbrev pub origins_written : {m : Mesh} → RemovalCall m → List ℕ
origins_written r = take r.answer.faces r.afterwards.origins

-- ---- `compaction::remove_unused_attrs`

pub record CompactionCall (m : Mesh) : Type 0 where
  pub before : compaction.Result
  pub afterwards : compaction.Result
  pub answer : Compacted
  pub contract : compaction.Compaction m before afterwards answer
  pub room : compaction.too_short m before ≡ false

-- what is written at the front of the four lists, and the sizes as they were
abbrev pub left_by_compaction : {m : Mesh} → CompactionCall m → Mesh
left_by_compaction {m} c =
    mesh_of
    (take (point_width * c.answer.positions) c.afterwards.positions)
    (take (texel_width * c.answer.textures) c.afterwards.textures)
    (take (point_width * c.answer.normals) c.afterwards.normals)
    (take (length m.corners) c.afterwards.corners)
    m.sizes

-- ---- one call after the other

-- the calls of these steps, on m first and each on what the one before it left, leave n
pub data Calls : Mesh → List Step → Mesh → Type 0 where
  done : {m : Mesh} → Calls m [] m
  removing : {m n : Mesh} {ss : List Step} (r : RemovalCall m) → Calls (left_by_removal r) ss n → Calls m (Remove ∷ ss) n
  compacting : {m n : Mesh} {ss : List Step} (c : CompactionCall m) → Calls (left_by_compaction c) ss n → Calls m (Compact ∷ ss) n

-- the numbers they answer
abbrev pub answers : {m n : Mesh} {ss : List Step} → Calls m ss n → List ℕ
answers done = []
answers (removing r c) = r.answer.number ∷ answers c
answers (compacting r c) = r.answer.number ∷ answers c

-- whatever the calls on an accepted mesh answer and write, as their contracts allow it
pub record AnyOrderOfCalls (m : Mesh) : Type 0 where
  -- each of them answers 0
  pub none_refused : {ss : List Step} {n : Mesh} (c : Calls m ss n) → every (eqb 0) (answers c) ≡ true
  -- compacting, removing and compacting again leaves the same mesh as removing and compacting
  pub compacting_first : {n o : Mesh} → Calls m (Compact ∷ Remove ∷ Compact ∷ []) n → Calls m (Remove ∷ Compact ∷ []) o → n ≡ o
  -- removing a second time changes nothing
  pub removing_again : (r : RemovalCall m) (q : RemovalCall (left_by_removal r)) → left_by_removal q ≡ left_by_removal r
  -- compacting a second time changes nothing
  pub compacting_again : (c : CompactionCall m) (d : CompactionCall (left_by_compaction c)) → left_by_compaction d ≡ left_by_compaction c
  -- removing after compaction writes the same origin numbers as removing before it
  pub same_origins : (r : RemovalCall m) (c : CompactionCall m) (q : RemovalCall (left_by_compaction c)) → origins_written q ≡ origins_written r
  -- and any two sensible orders leave the same mesh
  pub same_mesh : {ss ts : List Step} {n o : Mesh} → Calls m ss n → Calls m ts o → sensible ss ≡ true → sensible ts ≡ true → n ≡ o

abbrev pub OrderOfCallsIsFree : Type 0
OrderOfCallsIsFree = (m : Mesh) → mesh_number m ≡ 0 → AnyOrderOfCalls m

-- ---- what is asked of the calls can be had: on every mesh and all lists with the stated room, and so in every order of steps

pub record CallsCanBeHad : Type 0 where
  pub removal_had : (m : Mesh) (lent : removal.Result) → removal.too_short m lent ≡ false → (r : RemovalCall m) × (r.before ≡ lent)
  pub compaction_had : (m : Mesh) (lent : compaction.Result) → compaction.too_short m lent ≡ false → (c : CompactionCall m) × (c.before ≡ lent)
  pub in_every_order : (m : Mesh) (ss : List Step) → (n : Mesh) × Calls m ss n
