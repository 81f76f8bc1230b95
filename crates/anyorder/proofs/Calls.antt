-- The calls: each answers 0 on an accepted mesh, and the mesh that it leaves is the one that the rules say. So what holds of the rules holds of
-- them. Assumes nothing.
use mathlib.Core.Path.{◌≡◌, refl, sym, ap, ◌∙◌}
use mathlib.Core.Bool.{true}
use mathlib.Core.List.{List, [], ◌∷◌}
use lib.Dec.{eqb}
use borrow.Author.Tests.{eq-eqb}
use Rattle.lists.specs.Lists.{every}
use Rattle.lists.proofs.Bools.{and_both}
use Rattle.mesh.specs.Mesh.{Mesh, mesh_of, faces}
use Rattle.mesh.specs.Table.{mesh_number}
use Rattle.removal.specs.Folded as removal
use Rattle.removal.specs.Origins.{origins_of}
use Rattle.removal.proofs.Accepted.{removed_accepted}
use Rattle.unused.specs.Compaction as compaction
use Rattle.unused.proofs.Using.{given}
use Rattle.unused.proofs.Laws.{accepted_compacted}
use Rattle.unused.proofs.Again.{compacted_again}
use Rattle.cleaning.proofs.InARow.{handed_on_lem, origins_front}
use Rattle.anyorder.specs.Orders.{Step, Remove, Compact, cleaned_by, sensible}
use Rattle.anyorder.specs.Calls.{RemovalCall, left_by_removal, origins_written, CompactionCall, left_by_compaction, Calls, done, removing, compacting, answers, OrderOfCallsIsFree}
use Rattle.anyorder.proofs.Removal.{unfolded_again}
use Rattle.anyorder.proofs.Cleaning.{origins_compacted}
use Rattle.anyorder.proofs.Orders.{every_order}

-- ---- removal

module _ (m : Mesh) (z : mesh_number m ≡ 0) (r : RemovalCall m) where
  removal_done : r.answer.number ≡ 0
  unfolding removal.removal_number
  removal_done = r.contract.number ∙ rw (z, r.room)

  pub removal_left : left_by_removal r ≡ removal.unfolded_mesh m
  removal_left = handed_on_lem r.contract removal_done

  origins_left : origins_written r ≡ origins_of (faces m)
  origins_left = (origins_front r.contract removal_done).is

-- ---- compaction

module _ (m : Mesh) (z : mesh_number m ≡ 0) (c : CompactionCall m) where
  compaction_done : c.answer.number ≡ 0
  unfolding compaction.compaction_number
  compaction_done = c.contract.number ∙ rw (z, c.room)

  pub compaction_left : left_by_compaction c ≡ compaction.compacted m
  unfolding compaction.compacted
  compaction_left =
      let g = given m c.before c.afterwards c.answer c.contract compaction_done in
      λ i. mesh_of (g.positions i) (g.textures i) (g.normals i) (g.corners i) m.sizes

-- what each leaves is accepted again
module _ (m : Mesh) (z : mesh_number m ≡ 0) where
  again_removed : (r : RemovalCall m) → mesh_number (left_by_removal r) ≡ 0
  again_removed r = ap mesh_number (removal_left m z r) ∙ removed_accepted m z

  again_compacted : (c : CompactionCall m) → mesh_number (left_by_compaction c) ≡ 0
  again_compacted c = ap mesh_number (compaction_left m z c) ∙ accepted_compacted m z

-- ---- one call after the other

calls_leave : {m n : Mesh} {ss : List Step} → Calls m ss n → mesh_number m ≡ 0 → n ≡ cleaned_by ss m
calls_leave done z = refl
calls_leave {m} (removing {ss = ss} r c) z = calls_leave c (again_removed m z r) ∙ ap (cleaned_by ss) (removal_left m z r)
calls_leave {m} (compacting {ss = ss} r c) z = calls_leave c (again_compacted m z r) ∙ ap (cleaned_by ss) (compaction_left m z r)

calls_answer : {m n : Mesh} {ss : List Step} (c : Calls m ss n) → mesh_number m ≡ 0 → every (eqb 0) (answers c) ≡ true
calls_answer done z = refl
calls_answer {m} (removing r c) z =
    and_both (eqb 0 r.answer.number) (every (eqb 0) (answers c))
    (eq-eqb 0 r.answer.number (sym (removal_done m z r))) (calls_answer c (again_removed m z r))
calls_answer {m} (compacting r c) z =
    and_both (eqb 0 r.answer.number) (every (eqb 0) (answers c))
    (eq-eqb 0 r.answer.number (sym (compaction_done m z r))) (calls_answer c (again_compacted m z r))

same_left :
    (m : Mesh) → mesh_number m ≡ 0 → (ss ts : List Step) (n o : Mesh) → Calls m ss n → Calls m ts o
    → sensible ss ≡ true → sensible ts ≡ true → n ≡ o
same_left m z ss ts n o c d h k = calls_leave c z ∙ every_order m z ss h ∙ sym (calls_leave d z ∙ every_order m z ts k)

-- ---- a second time, and the origins

module _ (m : Mesh) (z : mesh_number m ≡ 0) where
  removed_twice : (r : RemovalCall m) (q : RemovalCall (left_by_removal r)) → left_by_removal q ≡ left_by_removal r
  removed_twice r q =
      let e = removal_left m z r in
      removal_left (left_by_removal r) (again_removed m z r) q ∙ ap removal.unfolded_mesh e ∙ unfolded_again m ∙ sym e

  compacted_twice : (c : CompactionCall m) (d : CompactionCall (left_by_compaction c)) → left_by_compaction d ≡ left_by_compaction c
  compacted_twice c d =
      let e = compaction_left m z c in
      compaction_left (left_by_compaction c) (again_compacted m z c) d ∙ ap compaction.compacted e ∙ compacted_again m z ∙ sym e

  origins_either_way : (r : RemovalCall m) (c : CompactionCall m) (q : RemovalCall (left_by_compaction c)) → origins_written q ≡ origins_written r
  origins_either_way r c q =
      origins_left (left_by_compaction c) (again_compacted m z c) q
      ∙ ap (λ (n : Mesh). origins_of (faces n)) (compaction_left m z c)
      ∙ origins_compacted m z
      ∙ sym (origins_left m z r)

pub order_of_calls_is_free : OrderOfCallsIsFree
order_of_calls_is_free m z = record {
  none_refused = λ {ss} {n} c. calls_answer c z;
  compacting_first = λ {n} {o} c d. same_left m z (Compact ∷ Remove ∷ Compact ∷ []) (Remove ∷ Compact ∷ []) n o c d refl refl;
  removing_again = removed_twice m z;
  compacting_again = compacted_twice m z;
  same_origins = origins_either_way m z;
  same_mesh = λ {ss} {ts} {n} {o} c d h k. same_left m z ss ts n o c d h k;
}
