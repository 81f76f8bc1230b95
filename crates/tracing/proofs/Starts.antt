-- The smallest start of some edges is one of theirs, and an edge that is taken was one of them. Assumes nothing.
use mathlib.Core.Path.{◌≡◌, refl, sym, ap, ◌∙◌}
use mathlib.Core.Logic.{◌⊎◌, inl, inr, ⊎_elim}
use mathlib.Core.Bool.{true}
use mathlib.Core.Option.{Option, none, some}
use mathlib.Core.List.{List, [], ◌∷◌}
use Prim.Native.Nat.{ℕ, suc, ◌≤◌, ◌<◌, min}
use native.Mathlib.Omega.{arith}
use lib.Dec.{eqb, leb}
use lib.ListN.{length}
use borrow.Author.Tests.{eq-eqb, leb-true, leb-false}
use Rattle.lists.specs.Lists.{bump}
use Rattle.lists.specs.Lists.{some as has_some}
use Rattle.lists.proofs.Bools.{by_cases}
use Rattle.lists.proofs.Counting.{bump_up, count_all}
use Rattle.edges.specs.Edges.{Edge, same}
use Rattle.tracing.specs.Following.{lesser, least_start_lem, without}
use Rattle.tracing.specs.Hems.{outs}
use Rattle.tracing.proofs.Balance.{without_count}

-- ---- the smaller of two

pub never : (n : ℕ) (o : Option ℕ) → lesser n o ≡ none → ⊥
never n none e = let z : ◌≡◌ {A = ℕ} 0 1 = cc in omega arith
never n (some k) e = let z : ◌≡◌ {A = ℕ} 0 1 = cc in omega arith

pub min_either : (a b : ℕ) → (min a b ≡ a) ⊎ (min a b ≡ b)
min_either a b =
    by_cases (leb a b) (λ p. inl (let l : a ≤ b = leb-true a b p in omega arith)) (λ p. inr (let l : b < a = leb-false a b p in omega arith))

-- ---- the smallest start

pub start_none : (h : List Edge) → least_start_lem h ≡ none → h ≡ []
start_none [] e = refl
start_none (x ∷ h) e = absurd (never x.0 (least_start_lem h) e)

pub start_some : (h : List Edge) (s : ℕ) → least_start_lem h ≡ some s → 0 < outs s h
start_some [] s q = absurd (let z : ◌≡◌ {A = ℕ} 0 1 = cc in omega arith)
start_some (x ∷ h) s q = go (λ p. bump_up (eqb s x.0) (outs s h) (start_some h s p)) (least_start_lem h) refl q
  where
    hit : x.0 ≡ s → 0 < bump (eqb s x.0) (outs s h)
    hit p = rw (eq-eqb s x.0 (sym p)) (omega arith)

    go :
        (least_start_lem h ≡ some s → 0 < bump (eqb s x.0) (outs s h)) → (o : Option ℕ) → least_start_lem h ≡ o → lesser x.0 o ≡ some s
        → 0 < bump (eqb s x.0) (outs s h)
    go miss none o q = hit (let f : x.0 ≡ s = cc in f)
    go miss (some k) o q =
        let f : min x.0 k ≡ s = cc in
        ⊎_elim (λ p. hit (sym p ∙ f)) (λ p. miss (o ∙ ap some (sym p ∙ f))) (min_either x.0 k)

-- ---- the edge taken

pub taken_length : (d : Edge) (h : List Edge) → has_some (same d) h ≡ true → length h ≡ suc (length (without d h))
taken_length d h m = sym (count_all h) ∙ without_count (λ x. true) d h m ∙ ap suc (count_all (without d h))
