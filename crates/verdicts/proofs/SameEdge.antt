-- What `same` and `before` say of two edges, and what a list of edges has without one of them. Assumes nothing.
use mathlib.Core.Path.{◌≡◌, refl, sym}
use mathlib.Core.Logic.{◌⊎◌, inl, inr, ⊎_elim}
use mathlib.Core.Bool.{Bool, true, false, ◌||◌, ◌&&◌}
use mathlib.Core.List.{List, [], ◌∷◌}
use Prim.Native.Nat.{◌≤◌, ◌<◌}
use native.Mathlib.Omega.{arith}
use lib.Dec.{ltb, eqb}
use borrow.Author.Tests.{ltb-true, ltb-false, eqb-true, eqb-false, eq-eqb}
use Rattle.lists.specs.Lists.{some}
use Rattle.lists.proofs.Bools.{by_cases, and_left, and_right, or_false_left, or_false_right, or_left, or_right}
use Rattle.lists.proofs.Counting.{clash, or_either}
use Rattle.verdicts.specs.Edges.{Edge, same, before}

pub same_true : (d e : Edge) → same d e ≡ true → d ≡ e
same_true d e h =
    λ i. (
      eqb-true d.0 e.0 (and_left (eqb d.0 e.0) (eqb d.1 e.1) h) i,
      eqb-true d.1 e.1 (and_right (eqb d.0 e.0) (eqb d.1 e.1) h) i,
    )

pub same_refl : (d : Edge) → same d d ≡ true
same_refl d = rw (eq-eqb d.0 d.0 refl, eq-eqb d.1 d.1 refl)

pub same_of : (d e : Edge) → d ≡ e → same d e ≡ true
same_of d e p = rw p (same_refl e)

-- an edge that passes a test, where there is one
pub found : (p : Edge → Bool) (es : List Edge) → some p es ≡ true → (e : Edge) × (p e ≡ true) × (some (same e) es ≡ true)
found p [] m = clash m refl
found p (x ∷ es) m = go (p x) refl m (found p es)
  where
    go :
        (b : Bool) → p x ≡ b → (b || some p es) ≡ true → (some p es ≡ true → (e : Edge) × (p e ≡ true) × (some (same e) es ≡ true))
        → (e : Edge) × (p e ≡ true) × ((same e x || some (same e) es) ≡ true)
    go true q m ih = (x, q, or_left (same x x) (some (same x) es) (same_refl x))
    go false q m ih =
        let r : (e : Edge) × (p e ≡ true) × (some (same e) es ≡ true) = ih m in
        (r.0, r.1, or_right (same r.0 x) (some (same r.0) es) r.2)

-- ascending order, as a statement
abbrev pub Before : Edge → Edge → Type 0
Before d e = (d.0 < e.0) ⊎ ((d.0 ≡ e.0) × (d.1 < e.1))

pub before_true : (d e : Edge) → before d e ≡ true → Before d e
before_true d e h =
    ⊎_elim
    (λ p. inl (ltb-true d.0 e.0 p))
    (λ q.
    inr (
      eqb-true d.0 e.0 (and_left (eqb d.0 e.0) (ltb d.1 e.1) q),
      ltb-true d.1 e.1 (and_right (eqb d.0 e.0) (ltb d.1 e.1) q),
    ))
    (or_either (ltb d.0 e.0) (eqb d.0 e.0 && ltb d.1 e.1) h)

pub before_false : (d e : Edge) → before d e ≡ false → same d e ≡ false → Before e d
before_false d e h k =
    let l : e.0 ≤ d.0 = ltb-false d.0 e.0 (or_false_left (ltb d.0 e.0) (eqb d.0 e.0 && ltb d.1 e.1) h) in
    by_cases (eqb d.0 e.0)
    (λ p.
    let q : d.0 ≡ e.0 = eqb-true d.0 e.0 p in
    let m : ltb d.1 e.1 ≡ false = rw p at (or_false_right (ltb d.0 e.0) (eqb d.0 e.0 && ltb d.1 e.1) h) in
    let n : eqb d.1 e.1 ≡ false = rw p at k in
    let m' : e.1 ≤ d.1 = ltb-false d.1 e.1 m in
    let n' : d.1 ≡ e.1 → ⊥ = eqb-false d.1 e.1 n in
    inr (sym q, omega arith))
    (λ p. let ne : d.0 ≡ e.0 → ⊥ = eqb-false d.0 e.0 p in inl (omega arith))

pub before_asym : (d e : Edge) → Before d e → Before e d → ⊥
before_asym d e (inl p) (inl q) = omega arith
before_asym d e (inl p) (inr q) = omega arith
before_asym d e (inr p) (inl q) = omega arith
before_asym d e (inr p) (inr q) = omega arith

pub before_trans : (c d e : Edge) → Before c d → Before d e → Before c e
before_trans c d e (inl p) (inl q) = inl (omega arith)
before_trans c d e (inl p) (inr q) = inl (omega arith)
before_trans c d e (inr p) (inl q) = inl (omega arith)
before_trans c d e (inr p) (inr q) = inr (omega arith)
