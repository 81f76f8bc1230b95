-- The next edge in a face, over all faces: every edge has a turn, and every edge is the second of one; so where each edge is used
-- once in its direction, the next edge goes round. It starts where the edge ends. Assumes nothing.
use mathlib.Core.Path.{◌≡◌, refl, sym, ap, ◌∙◌, subst}
use mathlib.Core.Logic.{⊎_elim}
use mathlib.Core.Bool.{Bool, true, false, cond, ◌&&◌, ◌||◌}
use mathlib.Core.List.{List, [], ◌∷◌, map, map-append}
use Prim.Native.Nat.{ℕ, ◌≤◌, ◌<◌}
use native.Mathlib.Omega.{arith}
use lib.Dec.{eqb}
use borrow.Author.Tests.{eqb-true, eq-eqb}
use Rattle.lists.specs.Lists.{bump, count, some, every}
use Rattle.lists.proofs.Bools.{by_cases, and_left, and_right, and_both, or_left, or_right}
use Rattle.lists.proofs.Counting.{clash, or_either, bump_swap, count_append, count_map, count_some, some_less}
use Rattle.lists.proofs.Parts.{every_append}
use Rattle.edges.specs.Edges.{Edge, same, runs, run_edges, ring_edges, mesh_edges}
use Rattle.edges.proofs.SameEdge.{same_true, same_refl}
use Rattle.turning.specs.Turning.{Turn, turns, next_in}
use Rattle.turning.proofs.Rounds.{In, Once, Round}

-- ---- a turn stands in a list

abbrev pub same_turn : Turn → Turn → Bool
same_turn t u = same t.0 u.0 && same t.1 u.1

abbrev pub Has : Turn → List Turn → Type 0
Has t ts = some (same_turn t) ts ≡ true

pub same_turn-true : (t u : Turn) → same_turn t u ≡ true → t ≡ u
same_turn-true t u h =
    λ i. (
      same_true t.0 u.0 (and_left (same t.0 u.0) (same t.1 u.1) h) i,
      same_true t.1 u.1 (and_right (same t.0 u.0) (same t.1 u.1) h) i,
    )

pub same_turn-refl : (t : Turn) → same_turn t t ≡ true
same_turn-refl t = and_both (same t.0 t.0) (same t.1 t.1) (same_refl t.0) (same_refl t.1)

pub every_has : (p : Turn → Bool) (ts : List Turn) → every p ts ≡ true → (t : Turn) → Has t ts → p t ≡ true
every_has p [] e t m = clash m refl
every_has p (u ∷ ts) e t m =
    ⊎_elim
    (λ q. ap p (same_turn-true t u q) ∙ and_left (p u) (every p ts) e)
    (every_has p ts (and_right (p u) (every p ts) e) t)
    (or_either (same_turn t u) (some (same_turn t) ts) m)

-- two tests that agree on the turns of a list
pub count_has : (p q : Turn → Bool) (ts : List Turn) → ((t : Turn) → Has t ts → p t ≡ q t) → count p ts ≡ count q ts
count_has p q [] h = refl
count_has p q (u ∷ ts) h =
    rw (
      h u (or_left (same_turn u u) (some (same_turn u) ts) (same_turn-refl u)),
      count_has p q ts (λ t m. h t (or_right (same_turn t u) (some (same_turn t) ts) m)),
    )

-- ---- looking up

-- how many turns begin with e
abbrev pub begins : Edge → List Turn → ℕ
begins e ts = count (λ t. same e t.0) ts

-- a turn of the list that is looked up
pub next_found : (ts : List Turn) (t : Turn) → begins t.0 ts ≤ 1 → Has t ts → next_in ts t.0 ≡ t.1
next_found [] t o m = clash m refl
next_found (u ∷ ts) t o m = go (same t.0 u.0) refl o m (next_found ts t)
  where
    later : Has t ts → 0 < begins t.0 ts
    later k =
        by_cases (some (λ x. same t.0 x.0) ts)
        (λ p. count_some (λ x. same t.0 x.0) ts p)
        (λ p.
        clash k
        (some_less (λ x. same t.0 x.0) (same_turn t) ts (λ x q. and_left (same t.0 x.0) (same t.1 x.1) q) p))

    go :
        (b : Bool) → same t.0 u.0 ≡ b → bump b (begins t.0 ts) ≤ 1 → ((b && same t.1 u.1) || some (same_turn t) ts) ≡ true
        → (begins t.0 ts ≤ 1 → Has t ts → next_in ts t.0 ≡ t.1) → cond b u.1 (next_in ts t.0) ≡ t.1
    go true q o m ih =
        ⊎_elim
        (λ p. sym (same_true t.1 u.1 p))
        (λ p. absurd (let z : 0 < begins t.0 ts = later p in omega arith))
        (or_either (same t.1 u.1) (some (same_turn t) ts) m)
    go false q o m ih = ih o m

-- an edge that has a turn has the one that is looked up
pub next_has : (ts : List Turn) (e : Edge) → In e (map (λ t. t.0) ts) → Has (e, next_in ts e) ts
next_has [] e m = clash m refl
next_has (u ∷ ts) e m = go (same e u.0) refl m (next_has ts e)
  where
    go :
        (b : Bool) → same e u.0 ≡ b → (b || some (same e) (map (λ t. t.0) ts)) ≡ true
        → (In e (map (λ t. t.0) ts) → Has (e, next_in ts e) ts)
        → Has (e, cond b u.1 (next_in ts e)) (u ∷ ts)
    go true q m ih =
        or_left (same_turn (e, u.1) u) (some (same_turn (e, u.1)) ts) (and_both (same e u.0) (same u.1 u.1) q (same_refl u.1))
    go false q m ih = or_right (same_turn (e, next_in ts e) u) (some (same_turn (e, next_in ts e)) ts) (ih m)

-- ---- the turns of faces

module _ {A : Type 0} where
  run_firsts : (a : A) (r : List A) (z : A) → map (λ (t : A × A). t.0) (run_edges a r z) ≡ a ∷ r
  run_firsts a [] z = refl
  run_firsts a (b ∷ r) z = ap (λ l. a ∷ l) (run_firsts b r z)

  pub ring_firsts : (l : List A) → map (λ (t : A × A). t.0) (ring_edges l) ≡ l
  ring_firsts [] = refl
  ring_firsts (a ∷ r) = run_firsts a r a

  run_seconds : (p : A → Bool) (a : A) (r : List A) (z : A) → count (λ (t : A × A). p t.1) (run_edges a r z) ≡ bump (p z) (count p r)
  run_seconds p a [] z = refl
  run_seconds p a (b ∷ r) z = ap (bump (p b)) (run_seconds p b r z) ∙ bump_swap (p b) (p z) (count p r)

  pub ring_seconds : (p : A → Bool) (l : List A) → count (λ (t : A × A). p t.1) (ring_edges l) ≡ count p l
  ring_seconds p [] = refl
  ring_seconds p (a ∷ r) = run_seconds p a r a

-- each edge of the faces, in its order, is the first of a turn
pub turns_firsts : (fs : List (List ℕ)) → map (λ t. t.0) (turns fs) ≡ mesh_edges fs
turns_firsts [] = refl
turns_firsts (f ∷ fs) =
    map-append (λ t. t.0) (ring_edges (ring_edges f)) (turns fs) ∙ rw (ring_firsts (ring_edges f), turns_firsts fs)

-- and each is the second of one
pub turns_seconds : (p : Edge → Bool) (fs : List (List ℕ)) → count (λ t. p t.1) (turns fs) ≡ count p (mesh_edges fs)
turns_seconds p [] = refl
turns_seconds p (f ∷ fs) =
    count_append (λ t. p t.1) (ring_edges (ring_edges f)) (turns fs)
    ∙ rw (ring_seconds p (ring_edges f), turns_seconds p fs) (sym (count_append p (ring_edges f) (mesh_edges fs)))

-- the second starts where the first ends
abbrev linked : Turn → Bool
linked t = eqb t.0.1 t.1.0

run_linked : (x a : ℕ) (r : List ℕ) (z : ℕ) (w : Edge) → z ≡ w.0 → every linked (run_edges (x, a) (run_edges a r z) w) ≡ true
run_linked x a [] z w q = rw (eq-eqb a a refl, eq-eqb z w.0 q)
run_linked x a (b ∷ r) z w q = rw (eq-eqb a a refl) (run_linked a b r z w q)

ring_linked : (f : List ℕ) → every linked (ring_edges (ring_edges f)) ≡ true
ring_linked [] = refl
ring_linked (a ∷ []) = rw (eq-eqb a a refl)
ring_linked (a ∷ b ∷ r) = run_linked a b r a (a, b) refl

turns_linked : (fs : List (List ℕ)) → every linked (turns fs) ≡ true
turns_linked [] = refl
turns_linked (f ∷ fs) =
    every_append linked (ring_edges (ring_edges f)) (turns fs)
    ∙ and_both (every linked (ring_edges (ring_edges f))) (every linked (turns fs)) (ring_linked f) (turns_linked fs)

module _ (fs : List (List ℕ)) where
  pub begins_runs : (e : Edge) → begins e (turns fs) ≡ runs e (mesh_edges fs)
  begins_runs e = sym (count_map (same e) (λ t. t.0) (turns fs)) ∙ ap (runs e) (turns_firsts fs)

  pub next_turn : (e : Edge) → In e (mesh_edges fs) → Has (e, next_in (turns fs) e) (turns fs)
  next_turn e m = next_has (turns fs) e (subst (In e) (sym (turns_firsts fs)) m)

  pub next_start : (e : Edge) → In e (mesh_edges fs) → (next_in (turns fs) e).0 ≡ e.1
  next_start e m =
      sym (eqb-true e.1 (next_in (turns fs) e).0 (every_has linked (turns fs) (turns_linked fs) (e, next_in (turns fs) e) (next_turn e m)))

  -- where each edge is used once in its direction
  pub next_round : Once (mesh_edges fs) → Round (next_in (turns fs)) (mesh_edges fs)
  next_round o d =
      ap (count (λ e. same d (next_in (turns fs) e))) (sym (turns_firsts fs))
      ∙ count_map (λ e. same d (next_in (turns fs) e)) (λ t. t.0) (turns fs)
      ∙ count_has (λ t. same d (next_in (turns fs) t.0)) (λ t. same d t.1) (turns fs)
      (λ t m. ap (same d) (next_found (turns fs) t (rw (begins_runs t.0) (o t.0)) m))
      ∙ turns_seconds (same d) fs
