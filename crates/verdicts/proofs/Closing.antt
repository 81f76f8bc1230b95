-- Closed, of a verdict that is neither Irregular nor Regular, is: no hem edges. A hem edge is then used exactly once, and an edge that
-- is used exactly once is a hem edge. Assumes nothing.
use mathlib.Core.Path.{◌≡◌, refl, sym, ap, ◌∙◌}
use mathlib.Core.Bool.{Bool, true, false, cond}
use mathlib.Core.List.{List, [], ◌∷◌}
use Prim.Native.Nat.{ℕ, zero, suc, ◌<◌}
use native.Mathlib.Omega.{arith}
use lib.Dec.{eqb}
use Rattle.lists.specs.Lists.{some}
use Rattle.lists.proofs.Bools.{by_cases, and_left, or_left, true_false}
use Rattle.lists.proofs.Counting.{clash, count_some, some_less}
use Rattle.verdicts.specs.Edges.{Edge, same, key, uses, runs, thrice, alike, once, verdict, Verdict, Irregular, Regular, Oriented, Closed, odd, last_or, hems}
use Rattle.verdicts.specs.Promises.{ClosedWithoutHems}
use Rattle.verdicts.proofs.SameEdge.{same_true, same_refl, found}
use Rattle.verdicts.proofs.HemUses.{below_three, not_irregular, not_regular, hem_runs}
use Rattle.verdicts.proofs.OnlyHems.{hems_member}
use Rattle.verdicts.proofs.OfHems.{hems_used}

-- below three and odd is one
odd_one : (u : ℕ) → u < 3 → odd u ≡ true → eqb 1 u ≡ true
odd_one zero l o = clash o refl
odd_one (suc zero) l o = refl
odd_one (suc (suc zero)) l o = clash o refl
odd_one (suc (suc (suc u))) l o = absurd (omega arith)

-- an edge that is among the hem edges is used exactly once
hem_once : (es : List Edge) → thrice es ≡ false → (e : Edge) → some (same e) (hems es) ≡ true → once es ≡ true
hem_once es n e h =
    let o : odd (uses (key e) es) ≡ true = and_left (odd (uses (key e) es)) (same e (last_or (key e) (key e) es)) (sym (hems_member es e) ∙ h) in
    let u : eqb 1 (uses (key e) es) ≡ true = odd_one (uses (key e) es) (below_three es n (key e)) o in
    by_cases (once es) (λ p. p)
    (λ p.
    clash (hems_used es e h) (some_less (λ d. eqb 1 (uses (key d) es)) (same e) es (λ x q. rw (← same_true e x q) u) p))

no_hems : (es : List Edge) → thrice es ≡ false → once es ≡ false → (l : List Edge) → hems es ≡ l → l ≡ []
no_hems es n o [] e = refl
no_hems es n o (d ∷ l) e =
    clash (hem_once es n d (ap (some (same d)) e ∙ or_left (same d d) (some (same d) l) (same_refl d))) o

-- an edge that is used exactly once is among the hem edges
once_hem : (es : List Edge) → thrice es ≡ false → once es ≡ true → hems es ≡ [] → ⊥
once_hem es n o e =
    let r : (d : Edge) × (eqb 1 (uses (key d) es) ≡ true) × (some (same d) es ≡ true) = found (λ d. eqb 1 (uses (key d) es)) es o in
    let a : runs r.0 (hems es) ≡ runs r.0 es = hem_runs es n r.0 ∙ ap (λ (b : Bool). cond b (runs r.0 es) 0) r.1 in
    let b : runs r.0 (hems es) ≡ 0 = ap (runs r.0) e in
    let c : 0 < runs r.0 es = count_some (same r.0) es r.2 in
    omega arith

is_closed : Verdict → Bool
is_closed Irregular = false
is_closed Regular = false
is_closed Oriented = false
is_closed Closed = true

verdict_by : (es : List Edge) → thrice es ≡ false → alike es ≡ false → verdict es ≡ cond (once es) Oriented Closed
unfolding verdict
verdict_by es n a = rw (n, a)

pub closed_without_hems : ClosedWithoutHems
unfolding is_closed
closed_without_hems es i r =
    let n : thrice es ≡ false = not_irregular es i in
    let v : verdict es ≡ cond (once es) Oriented Closed = verdict_by es n (not_regular es i r) in (
      λ c.
          by_cases (once es)
          (λ p. true_false (sym (ap is_closed (sym (ap (λ (b : Bool). cond b Oriented Closed) p) ∙ sym v ∙ c))))
          (λ p. no_hems es n p (hems es) refl),
      λ e. by_cases (once es) (λ p. absurd (once_hem es n p e)) (λ p. v ∙ ap (λ (b : Bool). cond b Oriented Closed) p),
    )
