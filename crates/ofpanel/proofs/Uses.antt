-- A use of an edge tells the panel: its face shares the edge's key with the face that the rules name, and so the two are in one panel.
-- Assumes nothing.
use mathlib.Core.Path.{◌≡◌, refl, sym, ap, ◌∙◌}
use mathlib.Core.Logic.{⊎_elim}
use mathlib.Core.Bool.{Bool, true, false, cond, ◌&&◌, ◌||◌}
use mathlib.Core.List.{List, [], ◌∷◌, map}
use Prim.Native.Nat.{ℕ, suc, ◌<◌}
use native.Mathlib.Omega.{arith}
use lib.Dec.{ltb, eqb}
use lib.ListN.{length, get_or}
use borrow.Author.Tests.{eqb-true, eq-eqb}
use Rattle.lists.specs.Lists.{has, some, joined, count, together}
use Rattle.lists.proofs.Bools.{by_cases, and_left, and_right, and_both, or_left, or_right}
use Rattle.lists.proofs.Chains.{reach_one}
use Rattle.lists.proofs.Counting.{clash, or_either}
use Rattle.lists.proofs.Members.{in_left, in_right}
use Rattle.lists.proofs.Parts.{some_append, some_none, some_true_at, every_at}
use Rattle.mesh.specs.Mesh.{Ring, position}
use Rattle.edges.specs.Edges.{Edge, same, ring_edges, edges_of}
use Rattle.turning.proofs.Rounds.{In}
use Rattle.keys.specs.Keys.{Key, same_key_lem, Use, uses_from, no_use}
use Rattle.keys.proofs.Valid.{no_normals, uses_plain}
use Rattle.panels.specs.Panels.{panels}
use Rattle.panels.specs.Promises.{key_in}
use Rattle.panels.proofs.Sharing.{same_key-true, is_use, use_key, key_below}
use Rattle.panels.proofs.Panelled.{panels_once, panels_inside, share_together}
use Rattle.onepanel.specs.Promise.{Owns}
use Rattle.onepanel.proofs.Owning.{bare_key, owns_key}
use Rattle.hemlist.specs.HemList.{first_at, face_of, panel_of}
use Rattle.labelled.proofs.Labels.{Lone, lone_rest, lone_apart}
use Rattle.ofpanel.specs.Steps.{end_of}

-- ---- the face that uses an edge

first_passes : {A : Type 0} (p : A → Bool) (d : A) (l : List A) → some p l ≡ true → p (get_or l (first_at p l) d) ≡ true
first_passes p d [] m = clash m refl
first_passes p d (x ∷ l) m = go (p x) refl m (first_passes p d l)
  where
    go :
        (b : Bool) → p x ≡ b → (b || some p l) ≡ true → (some p l ≡ true → p (get_or l (first_at p l) d) ≡ true)
        → p (get_or (x ∷ l) (cond b 0 (suc (first_at p l))) d) ≡ true
    go true q m ih = q
    go false q m ih = ih m

face_some : (q : Edge → Bool) (fs : List Ring) → some q (edges_of fs) ≡ true → some (λ f. some q (ring_edges (map position f))) fs ≡ true
face_some q [] m = m
face_some q (f ∷ fs) m =
    ⊎_elim
    (or_left (some q (ring_edges (map position f))) (some (λ g. some q (ring_edges (map position g))) fs))
    (λ r. or_right (some q (ring_edges (map position f))) (some (λ g. some q (ring_edges (map position g))) fs) (face_some q fs r))
    (or_either (some q (ring_edges (map position f))) (some q (edges_of fs)) (sym (some_append q (ring_edges (map position f)) (edges_of fs)) ∙ m))

owner : (fs : List Ring) (d : Edge) → In d (edges_of fs) → Owns fs (face_of fs d) d
unfolding face_of
owner fs d m = first_passes (λ f. some (same d) (ring_edges (map position f))) [] fs (face_some (same d) fs m)

-- ---- faces that are together, where each stands in one panel

together_left : (a b : ℕ) (ps : List (List ℕ)) → together a b ps ≡ true → has a (joined ps) ≡ true
together_left a b [] t = clash t refl
together_left a b (p ∷ ps) t =
    ⊎_elim
    (λ q. in_left a p (joined ps) (and_left (has a p) (has b p) q))
    (λ q. in_right a p (joined ps) (together_left a b ps q))
    (or_either (has a p && has b p) (together a b ps) t)

together_right : (a b : ℕ) (ps : List (List ℕ)) → together a b ps ≡ true → has b (joined ps) ≡ true
together_right a b [] t = clash t refl
together_right a b (p ∷ ps) t =
    ⊎_elim
    (λ q. in_left b p (joined ps) (and_right (has a p) (has b p) q))
    (λ q. in_right b p (joined ps) (together_right a b ps q))
    (or_either (has a p && has b p) (together a b ps) t)

together_at : (a b : ℕ) (ps : List (List ℕ)) → Lone a ps → Lone b ps → together a b ps ≡ true → first_at (has a) ps ≡ first_at (has b) ps
together_at a b [] o u t = clash t refl
together_at a b (p ∷ ps) o u t =
    go (has a p) refl (has b p) refl t (together_at a b ps (lone_rest a p ps o) (lone_rest b p ps u))
  where
    go :
        (x : Bool) → has a p ≡ x → (y : Bool) → has b p ≡ y → ((x && y) || together a b ps) ≡ true
        → (together a b ps ≡ true → first_at (has a) ps ≡ first_at (has b) ps)
        → cond x 0 (suc (first_at (has a) ps)) ≡ cond y 0 (suc (first_at (has b) ps))
    go true q true r t ih = refl
    go true q false r t ih = lone_apart a p ps o q (together_left a b ps t)
    go false q true r t ih = lone_apart b p ps u r (together_right a b ps t)
    go false q false r t ih = ap suc (ih t)

-- ---- a use of the edge d

bare_ends : (d : Edge) → (end_of 0 d ≡ (bare_key d).0) × (end_of 1 d ≡ (bare_key d).1)
unfolding end_of
bare_ends d = go (ltb d.0 d.1)
  where
    go :
        (b : Bool)
        → (cond b d.0 d.1 ≡ (cond {A = Key} b (d.0, d.1, 0, 0) (d.1, d.0, 0, 0)).0)
        × (cond b d.1 d.0 ≡ (cond {A = Key} b (d.0, d.1, 0, 0) (d.1, d.0, 0, 0)).1)
    go true = (refl, refl)
    go false = (refl, refl)

bare_zeros : (d : Edge) → ((bare_key d).2 ≡ 0) × ((bare_key d).3 ≡ 0)
bare_zeros d = go (ltb d.0 d.1)
  where
    go :
        (b : Bool)
        → ((cond {A = Key} b (d.0, d.1, 0, 0) (d.1, d.0, 0, 0)).2 ≡ 0)
        × ((cond {A = Key} b (d.0, d.1, 0, 0) (d.1, d.0, 0, 0)).3 ≡ 0)
    go true = (refl, refl)
    go false = (refl, refl)

module _ (fs : List Ring) (d : Edge) where
  abbrev us : List Use
  us = uses_from false 0 fs

  abbrev Ends : Use → Type 0
  Ends u = (u.1.0 ≡ end_of 0 d) × (u.1.1 ≡ end_of 1 d)

  -- a use with the ends of d has its key
  ends_key : (f : ℕ) → f < length us → Ends (get_or us f no_use) → same_key_lem (bare_key d) (get_or us f no_use).1 ≡ true
  ends_key f h e =
      let k : Key = (get_or us f no_use).1 in
      let p : (eqb k.2 0 && eqb k.3 0) ≡ true = every_at (λ (u : Use). no_normals u.1) no_use us f (uses_plain 0 fs) h in
      and_both _ _
      (and_both _ _
      (and_both _ _
      (eq-eqb (bare_key d).0 k.0 (sym (e.0 ∙ (bare_ends d).0)))
      (eq-eqb (bare_key d).1 k.1 (sym (e.1 ∙ (bare_ends d).1))))
      (eq-eqb (bare_key d).2 k.2 ((bare_zeros d).0 ∙ sym (eqb-true k.2 0 (and_left (eqb k.2 0) (eqb k.3 0) p)))))
      (eq-eqb (bare_key d).3 k.3 ((bare_zeros d).1 ∙ sym (eqb-true k.3 0 (and_right (eqb k.2 0) (eqb k.3 0) p))))

  key_ends : (u : Use) → same_key_lem (bare_key d) u.1 ≡ true → Ends u
  key_ends u s =
      let e : bare_key d ≡ u.1 = same_key-true (bare_key d) u.1 s in
      (sym (ap (λ (k : Key). k.0) e) ∙ sym (bare_ends d).0, sym (ap (λ (k : Key). k.1) e) ∙ sym (bare_ends d).1)

  use_has : (f : ℕ) → f < length us → Ends (get_or us f no_use) → key_in false fs (get_or us f no_use).0 (bare_key d) ≡ true
  use_has f h e =
      let x : ℕ = (get_or us f no_use).0 in
      sym (use_key false fs x (bare_key d))
      ∙ some_true_at (is_use x (bare_key d)) no_use us f h (and_both (eqb x x) _ (eq-eqb x x refl) (ends_key f h e))

  -- its face is one
  pub use_face : (f : ℕ) → f < length us → Ends (get_or us f no_use) → (get_or us f no_use).0 < length fs
  use_face f h e = key_below false fs (get_or us f no_use).0 (bare_key d) (use_has f h e)

  module _ (m : In d (edges_of fs)) where
    owned : key_in false fs (face_of fs d) (bare_key d) ≡ true
    owned = owns_key fs (face_of fs d) d (owner fs d m)

    -- there is one
    pub some_use : ((y : ℕ) → y < length us → Ends (get_or us y no_use) → ⊥) → ⊥
    some_use none =
        let x : ℕ = face_of fs d in
        clash (use_key false fs x (bare_key d) ∙ owned)
        (some_none (is_use x (bare_key d)) no_use us
        (λ y h.
        by_cases (is_use x (bare_key d) (get_or us y no_use))
        (λ p. absurd (none y h (key_ends (get_or us y no_use) (and_right (eqb x (get_or us y no_use).0) _ p))))
        (λ p. p)))

    lone : (x : ℕ) → has x (joined (panels false fs)) ≡ true → Lone x (panels false fs)
    lone x i = let e : count (eqb x) (joined (panels false fs)) ≡ 1 = panels_once false fs x (panels_inside false fs x i) in omega arith

    -- and its face is in the panel of the face that the rules name
    pub use_panel : (f : ℕ) → f < length us → Ends (get_or us f no_use) → panel_of fs (get_or us f no_use).0 ≡ panel_of fs (face_of fs d)
    unfolding panel_of
    use_panel f h e =
        let x : ℕ = (get_or us f no_use).0 in
        let t : together x (face_of fs d) (panels false fs) ≡ true =
        share_together false fs x (face_of fs d) (use_face f h e) (reach_one (bare_key d, use_has f h e, owned)) in
        together_at x (face_of fs d) (panels false fs)
        (lone x (together_left x (face_of fs d) (panels false fs) t))
        (lone (face_of fs d) (together_right x (face_of fs d) (panels false fs) t))
        t
