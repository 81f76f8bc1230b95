-- The verdict by its number: where there is one the number returned is 0, and a refusal leaves the place as it was. Assumes nothing.
use mathlib.Core.Path.{◌≡◌, refl, sym, ap, ◌∙◌}
use mathlib.Core.Option.{none, some, some-injective, none-ne-some}
use Prim.Native.Nat.{ℕ, zero, suc}
use Rattle.mesh.specs.Mesh.{Mesh}
use Rattle.mesh.specs.Table.{mesh_number, after}
use Rattle.edges.specs.Edges.{Verdict, verdict}
use Rattle.edges.specs.Answers.{Answer, verdict_of, answer_of, judged, mesh_edges_of}
use Rattle.edges.specs.declared.ShellCondition.{ShellCondition}
use Rattle.edges.specs.declared.Judged.{Judged}
use Rattle.edges.specs.declared.Judged.TheVariants.{Found, Refused}
use Rattle.answers.specs.Answers.{verdict_number}
use Rattle.barleyhinge.specs.Calls.{VerdictAnswer}

-- the verdict was answered, and the number is 0
pub found :
    (m : Mesh) (j : Judged) (c : ShellCondition) (before n : ℕ) → answer_of j ≡ judged m → j ≡ Found c
    → n ≡ verdict_number (verdict_of c) → VerdictAnswer m before n 0
unfolding answer_of judged
found m j c before n a f e =
    let both : answer_of (Found c) ≡ judged m = ap answer_of (sym f) ∙ a in
    let z : 0 ≡ mesh_number m = ap (λ (x : Answer). x.number) both in
    let v : some (verdict_of c) ≡ some (verdict (mesh_edges_of m)) =
    ap (λ (x : Answer). x.verdict) both ∙ ap (λ (k : ℕ). after k (some (verdict (mesh_edges_of m))) none) (sym z) in
    record { returned = z; answered = e ∙ ap verdict_number (some-injective _ _ v) }

-- a number with no verdict is not 0
refusing : (v : Verdict) (before n : ℕ) (new : ℕ) → none ≡ after n (some v) none → before ≡ after n new before
refusing v before zero new h = absurd (none-ne-some v h)
refusing v before (suc n) new h = refl

pub refused :
    (m : Mesh) (j : Judged) (before n : ℕ) → answer_of j ≡ judged m → j ≡ Refused n → VerdictAnswer m before before n
unfolding answer_of judged
refused m j before n a f =
    let both : answer_of (Refused n) ≡ judged m = ap answer_of (sym f) ∙ a in
    let e : n ≡ mesh_number m = ap (λ (x : Answer). x.number) both in
    let v : none ≡ after n (some (verdict (mesh_edges_of m))) none =
    ap (λ (x : Answer). x.verdict) both ∙ ap (λ (k : ℕ). after k (some (verdict (mesh_edges_of m))) none) (sym e) in
    record {
      returned = e;
      answered = refusing (verdict (mesh_edges_of m)) before n (verdict_number (verdict (mesh_edges_of m))) v;
    }
