-- What `shell_condition` answers of an accepted mesh: its verdict, and no refusal. Assumes nothing.
use mathlib.Core.Path.{◌≡◌, refl, sym, ap, ◌∙◌}
use mathlib.Core.Option.{none, some}
use Rattle.mesh.specs.Mesh.{Mesh}
use Rattle.mesh.specs.Table.{mesh_number}
use Rattle.mesh.proofs.After.{after_done}
use Rattle.edges.specs.Edges.{Verdict, verdict}
use Rattle.edges.specs.Answers.{mesh_edges_of, verdict_of, answer_of, judged}
use Rattle.edges.specs.declared.ShellCondition.{ShellCondition}
use Rattle.edges.specs.declared.Judged.TheVariants.{Found}
use Rattle.edges.proofs.Answering.{answer_only}
use Rattle.calls.specs.Calls.{VerdictCall, Says}

-- the case that stands for a verdict
abbrev pub case_of : Verdict → ShellCondition
case_of Verdict.Irregular = ShellCondition.Irregular
case_of Verdict.Regular = ShellCondition.Regular
case_of Verdict.Oriented = ShellCondition.Oriented
case_of Verdict.Closed = ShellCondition.Closed

case_verdict : (v : Verdict) → verdict_of (case_of v) ≡ v
unfolding verdict_of
case_verdict Verdict.Irregular = refl
case_verdict Verdict.Regular = refl
case_verdict Verdict.Oriented = refl
case_verdict Verdict.Closed = refl

module _ (m : Mesh) (z : mesh_number m ≡ 0) where
  found_is : (c : ShellCondition) → verdict_of c ≡ verdict (mesh_edges_of m) → answer_of (Found c) ≡ judged m
  unfolding answer_of judged
  found_is c e =
      λ i. record {
        number = sym z i;
        verdict = (ap some e ∙ sym (after_done (mesh_number m) (some (verdict (mesh_edges_of m))) none z)) i;
      }

  -- the call answers the case of the mesh's verdict
  pub answered : (v : VerdictCall m) → Says v (case_of (verdict (mesh_edges_of m)))
  answered v =
      answer_only v.answer (Found (case_of (verdict (mesh_edges_of m))))
      (v.contract ∙ sym (found_is (case_of (verdict (mesh_edges_of m))) (case_verdict (verdict (mesh_edges_of m)))))

  -- and so the verdict that it answers is the mesh's
  pub said : (v : VerdictCall m) (c : ShellCondition) → Says v c → verdict (mesh_edges_of m) ≡ verdict_of c
  said v c e =
      let q : Found (case_of (verdict (mesh_edges_of m))) ≡ Found c = sym (answered v) ∙ e in
      let k : case_of (verdict (mesh_edges_of m)) ≡ c = cc in
      sym (case_verdict (verdict (mesh_edges_of m))) ∙ ap verdict_of k

  -- the other way round: a verdict that it does not answer is not the mesh's
  pub unsaid : (v : VerdictCall m) (k : Verdict) → (Says v (case_of k) → ⊥) → verdict (mesh_edges_of m) ≡ k → ⊥
  unsaid v k h e = h (answered v ∙ ap (λ (x : Verdict). Found (case_of x)) e)
