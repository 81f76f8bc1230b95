-- Two calls of `hem_edges` on meshes with the same faces. Assumes nothing.
use mathlib.Core.Path.{◌≡◌, sym, ap, ap₂, ◌∙◌}
use mathlib.Core.List.{map}
use Prim.Native.Nat.{ℕ}
use native.Mathlib.Omega.{arith}
use lib.ListN.{length, length-map}
use Rattle.mesh.specs.Mesh.{Mesh, faces}
use Rattle.mesh.specs.Table.{mesh_number}
use Rattle.edges.specs.Edges.{key, Irregular, hems}
use Rattle.edges.specs.Answers.{mesh_edges_of, start, end, hem_number}
use Rattle.edges.proofs.OfHems.{mesh_hems_within}
use Rattle.tracing.specs.Hems.{pairs}
use Rattle.tracing.proofs.Tables.{pairs_of}
use Rattle.order.specs.Demand.{SameEdges}
use Rattle.calls.specs.Calls.{corners_of, VerdictCall, HemCall, starts_written, ends_written, edges_written}
use Rattle.calls.specs.Order.{SameHems}
use Rattle.calls.proofs.Numbers.{roomy_zero}
use Rattle.calls.proofs.Fronts.{front, as_many}
use Rattle.calls.proofs.Verdicts.{unsaid}

-- one call
module _ (m : Mesh) (z : mesh_number m ≡ 0) (r : HemCall m) where
  abbrev number : ℕ
  number = hem_number m (length r.before.starts) (length r.before.ends)

  zero_is : number ≡ 0
  unfolding hem_number
  zero_is = roomy_zero (mesh_number m) (length r.before.starts) (corners_of m) (length r.before.ends) (corners_of m) z r.starts_room r.ends_room

  done_is : r.answer.number ≡ 0
  done_is = r.contract.number ∙ zero_is

  starts_are : starts_written r ≡ map start (hems (mesh_edges_of m))
  starts_are =
      front r.before.starts r.afterwards.starts (map start (hems (mesh_edges_of m))) r.answer.number (length (hems (mesh_edges_of m))) r.answer.count done_is
      r.contract.starts r.contract.count (sym (length-map (hems (mesh_edges_of m)) start))
      (omega (arith, length-map (hems (mesh_edges_of m)) start, mesh_hems_within m z, r.starts_room))

  ends_are : ends_written r ≡ map end (hems (mesh_edges_of m))
  ends_are =
      front r.before.ends r.afterwards.ends (map end (hems (mesh_edges_of m))) r.answer.number (length (hems (mesh_edges_of m))) r.answer.count done_is
      r.contract.ends r.contract.count (sym (length-map (hems (mesh_edges_of m)) end))
      (omega (arith, length-map (hems (mesh_edges_of m)) end, mesh_hems_within m z, r.ends_room))

  edges_are : edges_written r ≡ hems (mesh_edges_of m)
  edges_are = ap₂ pairs starts_are ends_are ∙ pairs_of (hems (mesh_edges_of m))

-- two of them
pub hems_agree :
    (m n : Mesh) → mesh_number m ≡ 0 → mesh_number n ≡ 0 → SameEdges (faces m) (faces n)
    → (v : VerdictCall m) (r : HemCall m) (q : HemCall n) → SameHems v r q
hems_agree m n a b d v r q = record {
  done = (done_is m a r, done_is n b q);
  as_many =
      as_many r.answer.number q.answer.number (length (hems (mesh_edges_of m))) (length (hems (mesh_edges_of n))) r.answer.count q.answer.count
      (done_is m a r) (done_is n b q) r.contract.count q.contract.count
      (sym (length-map (hems (mesh_edges_of m)) key) ∙ ap length d.same_hems ∙ length-map (hems (mesh_edges_of n)) key);
  same_edges = ap (map key) (edges_are m a r) ∙ d.same_hems ∙ sym (ap (map key) (edges_are n b q));
  same_starts = λ h. starts_are m a r ∙ ap (map start) (d.same_directions (unsaid m a v Irregular h)) ∙ sym (starts_are n b q);
  same_ends = λ h. ends_are m a r ∙ ap (map end) (d.same_directions (unsaid m a v Irregular h)) ∙ sym (ends_are n b q);
}
