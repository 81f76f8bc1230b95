-- The hem edges of renumbered edges are the renumbered hem edges. Assumes nothing.
use mathlib.Core.Path.{◌≡◌, refl, sym, ap, ◌∙◌}
use mathlib.Core.Bool.{Bool, true, false, cond}
use mathlib.Core.List.{List, [], ◌∷◌, map}
use Prim.Native.Nat.{ℕ}
use Rattle.lists.specs.Lists.{some, every, bump}
use Rattle.lists.proofs.Bools.{by_cases, and_left, and_right}
use Rattle.lists.proofs.Counting.{clash, pos, some_count, count_none}
use Rattle.lists.proofs.Alike.{Alike}
use Rattle.edges.specs.Edges.{Edge, same, key, uses, runs, odd, last_or, hems}
use Rattle.edges.proofs.SameEdge.{same_true, same_refl}
use Rattle.edges.proofs.HemUses.{hem_count_is}
use Rattle.edges.proofs.OfHems.{hems_used, hems_every}
use Rattle.renumbered.specs.Renumbered.{OneToOne, moved}
use Rattle.renumbered.proofs.Moved.{between, same_moved, count_moved, hems_moved}
use Rattle.renumbered.proofs.Counted.{counts_alike}
use Rattle.renumbered.proofs.Images.{Telling, image_in, in_image}

-- each hem edge stands there once
hem_once : (es : List Edge) (d : Edge) → runs d (hems es) ≡ bump (some (same d) (hems es)) 0
hem_once es d =
    hem_count_is es d
    ∙ go (same d (last_or (key d) (key d) es)) (odd (uses (key d) es)) (pos (uses (key d) es))
    ∙ ap (λ (n : ℕ). bump (pos n) 0) (sym (hem_count_is es d))
    ∙ ap (λ (b : Bool). bump b 0) (sym (some_count (same d) (hems es)))
  where
    go : (a b c : Bool) → cond a (cond b (bump c 0) 0) 0 ≡ bump (pos (cond a (cond b (bump c 0) 0) 0)) 0
    go true true true = refl
    go true true false = refl
    go true false c = refl
    go false b c = refl

-- what every edge passes, an edge of the list passes
pub every_member : (p : Edge → Bool) (e : Edge) (es : List Edge) → every p es ≡ true → some (same e) es ≡ true → p e ≡ true
every_member p e [] h m = clash m refl
every_member p e (x ∷ es) h m =
    by_cases (same e x)
    (λ t. ap p (same_true e x t) ∙ and_left (p x) (every p es) h)
    (λ t. every_member p e es (and_right (p x) (every p es) h) (rw t at m))

edges_told : Telling same
edges_told = record { told = same_true; itself = same_refl }

module _ (g : ℕ → ℕ) where
  module _ (ps : List ℕ) (one : OneToOne g ps) (es : List Edge) (h : every (between ps) es ≡ true) where
    -- of a moved edge
    runs_of_moved : (e : Edge) → some (same e) es ≡ true → runs (moved g e) (hems (map (moved g) es)) ≡ runs (moved g e) (map (moved g) (hems es))
    runs_of_moved e m =
        let b = every_member (between ps) e es h m in
        hem_once (map (moved g) es) (moved g e)
        ∙ ap (λ (t : Bool). bump t 0) (hems_moved g ps one es h e b)
        ∙ sym (hem_once es e)
        ∙ sym (count_moved g ps one (same e) (same (moved g e)) (λ d l. same_moved g ps one e d b l) (hems es) (hems_every (between ps) es h))

    -- of any other
    runs_of_other : (d : Edge) → some (same d) (map (moved g) es) ≡ false → runs d (hems (map (moved g) es)) ≡ runs d (map (moved g) (hems es))
    runs_of_other d m =
        count_none (same d) (hems (map (moved g) es))
        (by_cases (some (same d) (hems (map (moved g) es))) (λ t. clash (hems_used (map (moved g) es) d t) m) (λ t. t))
        ∙ sym (count_none (same d) (map (moved g) (hems es))
        (by_cases (some (same d) (map (moved g) (hems es)))
        (λ t.
        let r = in_image (moved g) edges_told edges_told d (hems es) t in
        clash (ap (λ (x : Edge). some (same x) (map (moved g) es)) r.1 ∙ image_in (moved g) edges_told edges_told r.0 es (hems_used es r.0 r.2)) m)
        (λ t. t)))

    pub hems_are_moved : Alike (hems (map (moved g) es)) (map (moved g) (hems es))
    hems_are_moved =
        counts_alike same same_true same_refl (hems (map (moved g) es)) (map (moved g) (hems es))
        (λ d.
        by_cases (some (same d) (map (moved g) es))
        (λ t.
        let r = in_image (moved g) edges_told edges_told d es t in
        ap (λ (x : Edge). runs x (hems (map (moved g) es))) r.1
        ∙ runs_of_moved r.0 r.2
        ∙ ap (λ (x : Edge). runs x (map (moved g) (hems es))) (sym r.1))
        (λ t. runs_of_other d t))
