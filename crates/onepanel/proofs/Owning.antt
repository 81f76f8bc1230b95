-- Which faces use an edge: an edge has the same key, without normals, wherever it is used, also the other way; and a face has both edges of
-- each of its turns. Assumes nothing.
use mathlib.Core.Path.{◌≡◌, refl, sym, ap, ◌∙◌, subst}
use mathlib.Core.Logic.{⊎_elim}
use mathlib.Core.Bool.{Bool, true, false, cond}
use mathlib.Core.List.{List, [], ◌∷◌, map}
use Prim.Native.Nat.{ℕ, suc, ◌≤◌, ◌<◌}
use native.Mathlib.Omega.{arith}
use lib.Dec.{ltb}
use lib.ListN.{get_or}
use borrow.Author.Tests.{ltb-true, ltb-false}
use Rattle.lists.specs.Lists.{some}
use Rattle.lists.proofs.Bools.{by_cases, and_left, and_right}
use Rattle.lists.proofs.Counting.{clash, or_either, pos, some_count, some_less}
use Rattle.lists.proofs.Alike.{some_map}
use Rattle.lists.proofs.Parts.{some_append}
use Rattle.mesh.specs.Mesh.{Ring, Corner, position}
use Rattle.edges.specs.Edges.{Edge, same, flip, ring_edges}
use Rattle.edges.proofs.SameEdge.{same_true}
use Rattle.turning.specs.Turning.{Turn, turns}
use Rattle.turning.proofs.Edgewise.{both, ring_changed}
use Rattle.turning.proofs.Rounds.{In}
use Rattle.turning.proofs.Next.{Has, same_turn, ring_firsts, ring_seconds}
use Rattle.keys.specs.Keys.{Key, same_key_lem, key_of}
use Rattle.panels.specs.Promises.{key_in}
use Rattle.panels.proofs.Sharing.{same_key-refl}
use Rattle.onepanel.specs.Promise.{Owns}

-- an edge of corners, by position
abbrev placed : Corner × Corner → Edge
placed = both position

-- the key of an edge by position, without normals
abbrev pub bare_key : Edge → Key
bare_key d = cond (ltb d.0 d.1) (d.0, d.1, 0, 0) (d.1, d.0, 0, 0)

pub bare_flip : (d : Edge) → bare_key (flip d) ≡ bare_key d
bare_flip d = go (ltb d.0 d.1) refl (ltb d.1 d.0) refl
  where
    go :
        (a : Bool) → ltb d.0 d.1 ≡ a → (b : Bool) → ltb d.1 d.0 ≡ b
        → ◌≡◌ {A = Key} (cond b (d.1, d.0, 0, 0) (d.0, d.1, 0, 0)) (cond a (d.0, d.1, 0, 0) (d.1, d.0, 0, 0))
    go true p true q =
        absurd (let x : d.0 < d.1 = ltb-true d.0 d.1 p in let y : d.1 < d.0 = ltb-true d.1 d.0 q in omega arith)
    go true p false q = refl
    go false p true q = refl
    go false p false q =
        let x : d.1 ≤ d.0 = ltb-false d.0 d.1 p in
        let y : d.0 ≤ d.1 = ltb-false d.1 d.0 q in
        let e : d.0 ≡ d.1 = omega arith in
        λ i. (e i, sym e i, 0, 0)

bare_key_lem : (e : Corner × Corner) → key_of false e ≡ bare_key (placed e)
unfolding key_of
bare_key_lem e = refl

pub owns_key : (fs : List Ring) (x : ℕ) (d : Edge) → Owns fs x d → key_in false fs x (bare_key d) ≡ true
owns_key fs x d o =
    by_cases (key_in false fs x (bare_key d)) (λ p. p)
    (λ p.
    let l : List (Corner × Corner) = ring_edges (get_or fs x []) in
    let a : some (λ e. same d (placed e)) l ≡ true = sym (some_map (same d) placed l) ∙ ap (some (same d)) (sym (ring_changed position (get_or fs x []))) ∙ o in
    let b : some (λ e. same_key_lem (bare_key d) (key_of false e)) l ≡ false = sym (some_map (same_key_lem (bare_key d)) (key_of false) l) ∙ p in
    clash a
    (some_less (λ e. same_key_lem (bare_key d) (key_of false e)) (λ e. same d (placed e)) l
    (λ e q. rw (bare_key_lem e, same_true d (placed e) q) (same_key-refl (bare_key (placed e)))) b))

-- ---- a turn is in one face

ring_owns : (l : List Edge) (t : Turn) → Has t (ring_edges l) → In t.0 l × In t.1 l
ring_owns l t m = (
  subst (In t.0) (ring_firsts l)
      (some_map (same t.0) (λ u. u.0) (ring_edges l)
      ∙ wider (λ u. same t.0 u.0) (λ u q. and_left (same t.0 u.0) (same t.1 u.1) q)),
  some_count (same t.1) l ∙ ap pos (sym (ring_seconds (same t.1) l))
      ∙ sym (some_count (λ u. same t.1 u.1) (ring_edges l))
      ∙ wider (λ u. same t.1 u.1) (λ u q. and_right (same t.0 u.0) (same t.1 u.1) q),
)
  where
    wider : (p : Turn → Bool) → ((u : Turn) → same_turn t u ≡ true → p u ≡ true) → some p (ring_edges l) ≡ true
    wider p h = by_cases (some p (ring_edges l)) (λ q. q) (λ q. clash m (some_less p (same_turn t) (ring_edges l) h q))

pub turn_owned : (fs : List Ring) (t : Turn) → Has t (turns (map (map position) fs)) → (x : ℕ) × Owns fs x t.0 × Owns fs x t.1
turn_owned [] t m = clash m refl
turn_owned (f ∷ fs) t m =
    ⊎_elim
    (λ p. let r : _ = ring_owns (ring_edges (map position f)) t p in (0, r.0, r.1))
    (λ p. let r : (x : ℕ) × Owns fs x t.0 × Owns fs x t.1 = turn_owned fs t p in (suc r.0, r.1, r.2))
    (or_either (some (same_turn t) (ring_edges (ring_edges (map position f)))) (some (same_turn t) (turns (map (map position) fs)))
    (sym (some_append (same_turn t) (ring_edges (ring_edges (map position f))) (turns (map (map position) fs))) ∙ m))
