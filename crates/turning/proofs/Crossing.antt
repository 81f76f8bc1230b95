-- An edge that is no hem edge is used the other way too. So to cross, where there is something to cross to, goes round all edges
-- where no edge is used three times, nor twice in one direction; an edge from a position to itself is always a hem edge then.
-- Assumes nothing.
use mathlib.Core.Path.{◌≡◌, refl, sym, ap, ◌∙◌, subst}
use mathlib.Core.Logic.{⊎_elim}
use mathlib.Core.Bool.{Bool, true, false, cond}
use mathlib.Core.List.{List}
use Prim.Native.Nat.{ℕ, zero, suc, ◌+◌, ◌≤◌, ◌<◌}
use native.Mathlib.Omega.{arith}
use lib.Dec.{eqb}
use borrow.Author.Tests.{eqb-true, eqb-false}
use Rattle.lists.proofs.Bools.{by_cases}
use Rattle.lists.proofs.Counting.{clash, pos, some_count, count_some, some_counted, count_less}
use Rattle.edges.specs.Edges.{Edge, same, flip, key, uses, runs, thrice, alike, hems}
use Rattle.edges.proofs.SameEdge.{same_true, same_of}
use Rattle.edges.proofs.HemUses.{key_flip, key_same, uses_split, runs_uses, below_two, hem_runs}
use Rattle.turning.specs.Turning.{is_hem}
use Rattle.turning.proofs.Rounds.{In, Once, Round, OneToOne, one_round}

-- to the face that uses e the other way, unless e is a hem edge
abbrev pub cross_in : List Edge → Edge → Edge
cross_in h e = cond (is_hem h e) e (flip e)

-- an edge from a position to itself has one direction
self_uses : (e : Edge) → e.0 ≡ e.1 → (es : List Edge) → uses (key e) es ≤ runs e es
self_uses e p es =
    count_less (λ x. same (key e) (key x)) (same e) es
    (λ x q.
    same_of e x (⊎_elim (λ k. k) (λ k. (λ i. (p i, sym p i)) ∙ k) (key_same e x (same_true (key e) (key x) q))))

module _ (es : List Edge) (ni : thrice es ≡ false) (nr : alike es ≡ false) where
  abbrev H : List Edge
  H = hems es

  pub edges_once : Once es
  edges_once d = let l : runs d es < 2 = below_two es nr d in omega arith

  -- hem edges are edges, each once, and the hem edges among the edges are those that are used once
  hem_run : (e : Edge) → runs e H ≤ runs e es
  hem_run e = go (eqb 1 (uses (key e) es)) (hem_runs es ni e)
    where
      go : (b : Bool) → runs e H ≡ cond b (runs e es) 0 → runs e H ≤ runs e es
      go true q = omega arith
      go false q = omega arith

  pub hems_once : Once H
  hems_once e = let a : _ = hem_run e in let b : runs e es ≤ 1 = edges_once e in omega arith

  pub hem_edge : (e : Edge) → In e H → In e es
  hem_edge e m =
      let a : runs e H ≤ runs e es = hem_run e in let b : 0 < runs e H = count_some (same e) H m in some_counted (same e) es (omega arith)

  pub hem_used : (e : Edge) → In e es → is_hem H e ≡ eqb 1 (uses (key e) es)
  hem_used e m = some_count (same e) H ∙ ap pos (hem_runs es ni e) ∙ go (eqb 1 (uses (key e) es)) (runs e es) (count_some (same e) es m)
    where
      go : (b : Bool) (n : ℕ) → 0 < n → pos (cond b n 0) ≡ b
      go true zero l = absurd (omega arith)
      go true (suc n) l = refl
      go false n l = refl

  -- the other way
  pub twin : (e : Edge) → In e es → is_hem H e ≡ false → In (flip e) es
  twin e m n =
      let u : 1 ≡ uses (key e) es → ⊥ = eqb-false 1 (uses (key e) es) (sym (hem_used e m) ∙ n) in
      let o : runs e es ≤ 1 = edges_once e in
      let l : 0 < runs e es = count_some (same e) es m in
      by_cases (eqb e.0 e.1)
      (λ p.
      let q : e.0 ≡ e.1 = eqb-true e.0 e.1 p in
      let a : uses (key e) es ≤ runs e es = self_uses e q es in
      let b : runs e es ≤ uses (key e) es = runs_uses e es in
      absurd (u (omega arith)))
      (λ p.
      let s : uses (key e) es ≡ runs e es + runs (flip e) es = uses_split e (eqb-false e.0 e.1 p) es in
      some_counted (same (flip e)) es (by_cases (eqb (runs (flip e) es) 0)
      (λ z. let y : runs (flip e) es ≡ 0 = eqb-true (runs (flip e) es) 0 z in absurd (u (omega arith)))
      (λ z. let y : runs (flip e) es ≡ 0 → ⊥ = eqb-false (runs (flip e) es) 0 z in omega arith)))

  -- which is no hem edge either
  pub twin_inner : (e : Edge) → In e es → is_hem H e ≡ false → is_hem H (flip e) ≡ false
  twin_inner e m n =
      hem_used (flip e) (twin e m n) ∙ ap (λ k. eqb 1 (uses k es)) (key_flip e) ∙ sym (hem_used e m) ∙ n

  pub cross_in_lem : (e : Edge) → In e es → In (cross_in H e) es
  cross_in_lem e m = go (is_hem H e) refl
    where
      go : (b : Bool) → is_hem H e ≡ b → In (cond b e (flip e)) es
      go true q = m
      go false q = twin e m q

  cross_one : OneToOne (cross_in H) es
  cross_one d e m k = go (is_hem H d) refl (is_hem H e) refl
    where
      go : (a : Bool) → is_hem H d ≡ a → (b : Bool) → is_hem H e ≡ b → cond a d (flip d) ≡ cond b e (flip e) → d ≡ e
      go true p true q h = h
      go true p false q h = clash p (subst (λ x. is_hem H x ≡ false) (sym h) (twin_inner e k q))
      go false p true q h = clash q (subst (λ x. is_hem H x ≡ false) h (twin_inner d m p))
      go false p false q h = ap flip h

  pub cross_round : Round (cross_in H) es
  cross_round = one_round (cross_in H) es edges_once cross_in_lem cross_one
