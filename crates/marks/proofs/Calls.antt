-- The calls of cleaning: each leaves the mesh that its rule says, and so what is true of the rules is true of them, step by step. Assumes nothing.
use mathlib.Core.Path.{◌≡◌, refl, sym, ap, ap₂, ◌∙◌}
use mathlib.Core.List.{List, ◌∷◌}
use Prim.Native.Nat.{ℕ}
use Rattle.mesh.specs.Mesh.{Mesh, faces}
use Rattle.mesh.specs.Table.{mesh_number}
use Rattle.removal.specs.Folded as removal
use Rattle.removal.specs.Origins.{origins_of}
use Rattle.removal.proofs.Accepted.{removed_accepted}
use Rattle.unused.specs.Compaction as compaction
use Rattle.unused.proofs.Laws.{accepted_compacted}
use Rattle.cleaning.proofs.InARow.{origins_front}
use Rattle.anyorder.specs.Orders.{Step}
use Rattle.anyorder.specs.Calls.{RemovalCall, left_by_removal, origins_written, CompactionCall, left_by_compaction, Calls, done, removing, compacting, answers}
use Rattle.anyorder.proofs.Calls.{removal_left, compaction_left}
use Rattle.marks.specs.Marks.{unmarked}
use Rattle.marks.specs.Calls.{MarksAloneOfTheCalls}
use Rattle.marks.proofs.Accepted.{number_remarked}
use Rattle.marks.proofs.Removal.{unfolded_moves, origins_unread}
use Rattle.marks.proofs.Compaction.{compacted_moves}
use Rattle.marks.proofs.Promises.{marks_alone}

-- ---- one call: it answers 0

removal_0 : (m : Mesh) → mesh_number m ≡ 0 → (r : RemovalCall m) → r.answer.number ≡ 0
unfolding removal.removal_number
removal_0 m z r = r.contract.number ∙ rw (z, r.room)

compaction_0 : (m : Mesh) → mesh_number m ≡ 0 → (c : CompactionCall m) → c.answer.number ≡ 0
unfolding compaction.compaction_number
compaction_0 m z c = c.contract.number ∙ rw (z, c.room)

-- ---- two calls

module _ (m n : Mesh) (z : mesh_number m ≡ 0) (e : unmarked m ≡ unmarked n) where
  accepted_too : mesh_number n ≡ 0
  accepted_too = sym ((marks_alone m n e).answers mesh_number number_remarked) ∙ z

  left_removed : (r : RemovalCall m) (q : RemovalCall n) → unmarked (left_by_removal r) ≡ unmarked (left_by_removal q)
  left_removed r q =
      ap unmarked (removal_left m z r)
      ∙ (marks_alone m n e).leaves removal.unfolded_mesh unfolded_moves z
      ∙ sym (ap unmarked (removal_left n accepted_too q))

  left_compacted : (r : CompactionCall m) (q : CompactionCall n) → unmarked (left_by_compaction r) ≡ unmarked (left_by_compaction q)
  left_compacted r q =
      ap unmarked (compaction_left m z r)
      ∙ (marks_alone m n e).leaves compaction.compacted compacted_moves z
      ∙ sym (ap unmarked (compaction_left n accepted_too q))

  origins_same : (r : RemovalCall m) (q : RemovalCall n) → origins_written r ≡ origins_written q
  origins_same r q =
      (origins_front r.contract (removal_0 m z r)).is
      ∙ (marks_alone m n e).answers (λ m. origins_of (faces m)) origins_unread
      ∙ sym (origins_front q.contract (removal_0 n accepted_too q)).is

-- ---- one after the other

again_removed : (m : Mesh) → mesh_number m ≡ 0 → (r : RemovalCall m) → mesh_number (left_by_removal r) ≡ 0
again_removed m z r = ap mesh_number (removal_left m z r) ∙ removed_accepted m z

again_compacted : (m : Mesh) → mesh_number m ≡ 0 → (c : CompactionCall m) → mesh_number (left_by_compaction c) ≡ 0
again_compacted m z c = ap mesh_number (compaction_left m z c) ∙ accepted_compacted m z

numbers_same : {m n o p : Mesh} {ss : List Step} → mesh_number m ≡ 0 → unmarked m ≡ unmarked n → (c : Calls m ss o) (d : Calls n ss p) → answers c ≡ answers d
numbers_same z e done done = refl
numbers_same {m} {n} z e (removing r c) (removing q d) =
    ap₂ (λ (k : ℕ) (l : List ℕ). k ∷ l) (removal_0 m z r ∙ sym (removal_0 n (accepted_too m n z e) q))
    (numbers_same (again_removed m z r) (left_removed m n z e r q) c d)
numbers_same {m} {n} z e (compacting r c) (compacting q d) =
    ap₂ (λ (k : ℕ) (l : List ℕ). k ∷ l) (compaction_0 m z r ∙ sym (compaction_0 n (accepted_too m n z e) q))
    (numbers_same (again_compacted m z r) (left_compacted m n z e r q) c d)

leave_same : {m n o p : Mesh} {ss : List Step} → mesh_number m ≡ 0 → unmarked m ≡ unmarked n → Calls m ss o → Calls n ss p → unmarked o ≡ unmarked p
leave_same z e done done = e
leave_same {m} {n} z e (removing r c) (removing q d) = leave_same (again_removed m z r) (left_removed m n z e r q) c d
leave_same {m} {n} z e (compacting r c) (compacting q d) = leave_same (again_compacted m z r) (left_compacted m n z e r q) c d

pub marks_alone_of_the_calls : MarksAloneOfTheCalls
marks_alone_of_the_calls m n z e = record {
  same_numbers = numbers_same z e;
  leave = leave_same z e;
  same_origins = origins_same m n z e;
}
