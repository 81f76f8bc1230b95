-- The answers, case by case: a mesh that earns a number, a list that is too short, and a mesh that is accepted; and that an answer is
-- known by its number and verdict. Assumes nothing.
use mathlib.Core.Path.{◌≡◌, refl, sym, ap, ◌∙◌}
use mathlib.Core.Option.{Option, none, some}
use mathlib.Core.Bool.{Bool}
use mathlib.Core.List.{List, [], ◌∷◌}
use Prim.Native.Nat.{ℕ, zero, suc, ◌/◌, ◌≤◌, ◌<◌}
use lib.ListN.{length}
use borrow.Author.Tests.{lt-ltb, le-ltb}
use Rattle.mesh.specs.Limits.{width}
use Rattle.mesh.specs.Mesh.{Mesh, faces, rings}
use Rattle.mesh.specs.Table.{mesh_number, when, lent, short, after}
use Rattle.mesh.proofs.Numbers.{first_is, first_on, row_given}
pub use Rattle.mesh.proofs.Edges.{edged}
use Rattle.verdicts.specs.Edges.{edges_of, Verdict, verdict, hems}
use Rattle.edges.specs.Answers.{verdict_of, Answer, answer_of, judged, mesh_edges_of, hem_number, hems_in, HemAnswer, Hemmed}
use Rattle.edges.specs.declared.ShellCondition.{ShellCondition}
use Rattle.edges.specs.declared.Judged.{Judged}
use Rattle.edges.specs.declared.Judged.TheVariants.{Found, Refused}
use Rattle.edges.specs.declared.Hems.{Hems}

-- what a call that answered a number leaves
module _ {A : Type 0} (new old : A) where
  refused : (n : ℕ) → (n ≡ 0 → ⊥) → after n new old ≡ old
  refused zero h = absurd (h refl)
  refused (suc n) h = refl

  done : (n : ℕ) → n ≡ 0 → after n new old ≡ new
  done n h = ap (λ (k : ℕ). after k new old) h

-- ---- the verdict

module _ (m : Mesh) where
  pub judged_refused : (n : ℕ) → n ≡ mesh_number m → (n ≡ 0 → ⊥) → answer_of (Refused n) ≡ judged m
  unfolding answer_of judged
  judged_refused n e h =
      λ i. record { number = e i; verdict = sym (refused (some (verdict (mesh_edges_of m))) none (mesh_number m) (λ z. h (e ∙ z))) i }

  pub judged_found :
      (n : ℕ) (v : ShellCondition) → n ≡ mesh_number m → n ≡ 0 → verdict_of v ≡ verdict (edges_of (rings m.sizes m.corners)) → answer_of (Found v) ≡ judged m
  unfolding answer_of judged faces
  judged_found n v e z h =
      let y : mesh_number m ≡ 0 = sym e ∙ z in
      λ i. record { number = sym y i; verdict = (ap some h ∙ sym (done (some (verdict (mesh_edges_of m))) none (mesh_number m) y)) i }

-- ---- the hem edges

-- whether one of the two lists is too short
abbrev tight : Mesh → ℕ → ℕ → Bool
tight m a b = short (lent a (length m.corners / width) ∷ lent b (length m.corners / width) ∷ [])

-- an accepted mesh and room for its hem edges
hem_zero :
    (m : Mesh) (starts ends : List ℕ) → mesh_number m ≡ 0 → length m.corners / width ≤ length starts → length m.corners / width ≤ length ends
    → hem_number m (length starts) (length ends) ≡ 0
unfolding hem_number short
hem_zero m starts ends z g k =
    first_on (mesh_number m) (when (tight m (length starts) (length ends)) 9 ∷ []) z
    ∙ rw (le-ltb (length starts) (length m.corners / width) g, le-ltb (length ends) (length m.corners / width) k)

module _ (m : Mesh) (starts ends : List ℕ) where
  -- a number that is not 0: nothing is written
  pub hem_refused :
      (n : ℕ) → n ≡ hem_number m (length starts) (length ends) → (n ≡ 0 → ⊥)
      → HemAnswer m (hems_in starts ends) (hems_in starts ends) (record { number = n; count = 0 })
  hem_refused n e h = record {
    number = e;
    count = sym (refused (length (hems (mesh_edges_of m))) 0 n h);
    starts = sym (refused _ starts n h);
    ends = sym (refused _ ends n h);
  }

  module _ (n : ℕ) (e : n ≡ mesh_number m) where
    -- the mesh earns a number
    pub hem_mesh : (n ≡ 0 → ⊥) → n ≡ hem_number m (length starts) (length ends)
    unfolding hem_number
    hem_mesh h = e ∙ sym (first_is (mesh_number m) (when (tight m (length starts) (length ends)) 9 ∷ []) (λ q. h (e ∙ q)))

    -- a list is too short
    pub hem_starts_short : n ≡ 0 → length starts < length m.corners / width → 9 ≡ hem_number m (length starts) (length ends)
    unfolding hem_number short
    hem_starts_short z l =
        sym
        (first_on (mesh_number m) (when (tight m (length starts) (length ends)) 9 ∷ []) (sym e ∙ z)
        ∙ row_given (tight m (length starts) (length ends)) 8 [] (rw (lt-ltb (length starts) (length m.corners / width) l)))

    pub hem_ends_short : n ≡ 0 → length m.corners / width ≤ length starts → length ends < length m.corners / width → 9 ≡ hem_number m (length starts) (length ends)
    unfolding hem_number short
    hem_ends_short z g l =
        sym
        (first_on (mesh_number m) (when (tight m (length starts) (length ends)) 9 ∷ []) (sym e ∙ z)
        ∙ row_given (tight m (length starts) (length ends)) 8 []
        (rw (le-ltb (length starts) (length m.corners / width) g, lt-ltb (length ends) (length m.corners / width) l)))

    -- neither
    pub hem_done :
        n ≡ 0 → length m.corners / width ≤ length starts → length m.corners / width ≤ length ends → (starts' ends' : List ℕ) (r : Hems)
        → Hemmed (edges_of (rings m.sizes m.corners)) starts ends starts' ends' r
        → HemAnswer m (hems_in starts ends) (hems_in starts' ends') (record { number = 0; count = r.count })
    unfolding faces
    hem_done z g k starts' ends' r h = record {
      number = sym (hem_zero m starts ends (sym e ∙ z) g k);
      count = h.count;
      starts = h.starting;
      ends = h.ending;
    }

-- ---- an answer is known by its number and verdict

verdict_only : (a b : ShellCondition) → verdict_of a ≡ verdict_of b → a ≡ b
unfolding verdict_of
verdict_only ShellCondition.Irregular ShellCondition.Irregular e = refl
verdict_only ShellCondition.Irregular ShellCondition.Regular e = cc
verdict_only ShellCondition.Irregular ShellCondition.Oriented e = cc
verdict_only ShellCondition.Irregular ShellCondition.Closed e = cc
verdict_only ShellCondition.Regular ShellCondition.Irregular e = cc
verdict_only ShellCondition.Regular ShellCondition.Regular e = refl
verdict_only ShellCondition.Regular ShellCondition.Oriented e = cc
verdict_only ShellCondition.Regular ShellCondition.Closed e = cc
verdict_only ShellCondition.Oriented ShellCondition.Irregular e = cc
verdict_only ShellCondition.Oriented ShellCondition.Regular e = cc
verdict_only ShellCondition.Oriented ShellCondition.Oriented e = refl
verdict_only ShellCondition.Oriented ShellCondition.Closed e = cc
verdict_only ShellCondition.Closed ShellCondition.Irregular e = cc
verdict_only ShellCondition.Closed ShellCondition.Regular e = cc
verdict_only ShellCondition.Closed ShellCondition.Oriented e = cc
verdict_only ShellCondition.Closed ShellCondition.Closed e = refl

pub answer_only : (a b : Judged) → answer_of a ≡ answer_of b → a ≡ b
unfolding answer_of
answer_only (Found v) (Found w) e =
    ap Found (verdict_only v w (let q : some (verdict_of v) ≡ some (verdict_of w) = ap (λ (x : Answer). x.verdict) e in cc))
answer_only (Found v) (Refused n) e = let q : ◌≡◌ {A = Option Verdict} (some (verdict_of v)) none = ap (λ (x : Answer). x.verdict) e in cc
answer_only (Refused n) (Found v) e = let q : ◌≡◌ {A = Option Verdict} none (some (verdict_of v)) = ap (λ (x : Answer). x.verdict) e in cc
answer_only (Refused n) (Refused m) e = ap Refused (ap (λ (x : Answer). x.number) e)
