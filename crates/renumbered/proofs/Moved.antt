-- Edges whose ends are renumbered one-to-one: which of them are equal, with and without direction, is kept; so is how often each is
-- used, the verdict, and which are hem edges. Assumes nothing.
use mathlib.Core.Path.{◌≡◌, refl, sym, ap, ap₂, ◌∙◌}
use mathlib.Core.Logic.{⊎_elim}
use mathlib.Core.Bool.{Bool, true, false, cond, ◌&&◌, ◌||◌}
use mathlib.Core.List.{List, [], ◌∷◌, map}
use Prim.Native.Nat.{ℕ}
use lib.Dec.{leb, eqb}
use Rattle.lists.specs.Lists.{has, some, every, count, bump}
use Rattle.lists.proofs.Bools.{by_cases, true_false, and_both, and_left, and_right, or_left, or_right}
use Rattle.lists.proofs.Cases.{iff}
use Rattle.lists.proofs.Counting.{or_either, count_none}
use Rattle.edges.specs.Edges.{Edge, same, flip, key, uses, runs, thrice, alike, once, verdict, Irregular, Regular, Oriented, Closed, odd, last_or, hems}
use Rattle.edges.proofs.SameEdge.{same_true, same_of}
use Rattle.edges.proofs.HemUses.{key_flip, key_same}
use Rattle.edges.proofs.OnlyHems.{is_hem, hems_member}
use Rattle.renumbered.specs.Renumbered.{OneToOne, moved}

-- ---- two edges are one without direction where they are one, or one runs against the other

pub same_keys : (d e : Edge) → same (key d) (key e) ≡ (same d e || same d (flip e))
same_keys d e =
    iff (same (key d) (key e)) (same d e || same d (flip e))
    (λ h.
    ⊎_elim
    (λ p. or_left (same d e) (same d (flip e)) (same_of d e p))
    (λ p. or_right (same d e) (same d (flip e)) (same_of d (flip e) (ap flip p)))
    (key_same d e (same_true (key d) (key e) h)))
    (λ h.
    ⊎_elim
    (λ p. same_of (key d) (key e) (ap key (same_true d e p)))
    (λ p. same_of (key d) (key e) (ap key (same_true d (flip e) p) ∙ key_flip e))
    (or_either (same d e) (same d (flip e)) h))

-- ---- the last use of an edge that is used does not depend on what is answered where there is none

last_any : (k c d : Edge) (es : List Edge) → some (λ e. same k (key e)) es ≡ true → last_or k c es ≡ last_or k d es
last_any k c d [] h = true_false (sym h)
last_any k c d (e ∷ es) h =
    by_cases (same k (key e))
    (λ t. rw t)
    (λ t. rw t (last_any k c d es (rw t at h)))

-- ---- edges between the positions of a list

abbrev pub between : List ℕ → Edge → Bool
between ps e = has e.0 ps && has e.1 ps

module _ (g : ℕ → ℕ) (ps : List ℕ) (one : OneToOne g ps) where
  module _ (d e : Edge) (h : between ps d ≡ true) (k : between ps e ≡ true) where
    pub same_moved : same (moved g d) (moved g e) ≡ same d e
    same_moved =
        ap₂ (λ (a b : Bool). a && b)
        (one d.0 e.0 (and_left (has d.0 ps) (has d.1 ps) h) (and_left (has e.0 ps) (has e.1 ps) k))
        (one d.1 e.1 (and_right (has d.0 ps) (has d.1 ps) h) (and_right (has e.0 ps) (has e.1 ps) k))

  pub between_flip : (e : Edge) → between ps e ≡ true → between ps (flip e) ≡ true
  between_flip e h = and_both (has e.1 ps) (has e.0 ps) (and_right (has e.0 ps) (has e.1 ps) h) (and_left (has e.0 ps) (has e.1 ps) h)

  pub keys_moved : (d e : Edge) → between ps d ≡ true → between ps e ≡ true → same (key (moved g d)) (key (moved g e)) ≡ same (key d) (key e)
  keys_moved d e h k =
      same_keys (moved g d) (moved g e)
      ∙ ap₂ (λ (a b : Bool). a || b) (same_moved d e h k) (same_moved d (flip e) h (between_flip e k))
      ∙ sym (same_keys d e)

  -- tests that say of the moved edges what they say of the edges
  module _ (p q : Edge → Bool) (agree : (e : Edge) → between ps e ≡ true → q (moved g e) ≡ p e) where
    pub some_moved : (es : List Edge) → every (between ps) es ≡ true → some q (map (moved g) es) ≡ some p es
    some_moved [] h = refl
    some_moved (e ∷ es) h =
        ap₂ (λ (a b : Bool). a || b) (agree e (and_left (between ps e) (every (between ps) es) h)) (some_moved es (and_right (between ps e) (every (between ps) es) h))

    pub count_moved : (es : List Edge) → every (between ps) es ≡ true → count q (map (moved g) es) ≡ count p es
    count_moved [] h = refl
    count_moved (e ∷ es) h =
        ap₂ bump (agree e (and_left (between ps e) (every (between ps) es) h)) (count_moved es (and_right (between ps e) (every (between ps) es) h))

  module _ (es : List Edge) (h : every (between ps) es ≡ true) where
    pub uses_moved : (e : Edge) → between ps e ≡ true → uses (key (moved g e)) (map (moved g) es) ≡ uses (key e) es
    uses_moved e k = count_moved (λ d. same (key e) (key d)) (λ d. same (key (moved g e)) (key d)) (λ d l. keys_moved e d k l) es h

    runs_moved : (e : Edge) → between ps e ≡ true → runs (moved g e) (map (moved g) es) ≡ runs e es
    runs_moved e k = count_moved (same e) (same (moved g e)) (λ d l. same_moved e d k l) es h

    -- ---- the verdict

    thrice_moved : thrice (map (moved g) es) ≡ thrice es
    thrice_moved =
        some_moved (λ e. leb 3 (uses (key e) es)) (λ e. leb 3 (uses (key e) (map (moved g) es))) (λ e k. ap (leb 3) (uses_moved e k)) es h

    alike_moved : alike (map (moved g) es) ≡ alike es
    alike_moved = some_moved (λ e. leb 2 (runs e es)) (λ e. leb 2 (runs e (map (moved g) es))) (λ e k. ap (leb 2) (runs_moved e k)) es h

    once_moved : once (map (moved g) es) ≡ once es
    once_moved =
        some_moved (λ e. eqb 1 (uses (key e) es)) (λ e. eqb 1 (uses (key e) (map (moved g) es))) (λ e k. ap (eqb 1) (uses_moved e k)) es h

    pub verdict_moved : verdict (map (moved g) es) ≡ verdict es
    unfolding verdict
    verdict_moved =
        λ i. cond (thrice_moved i) Irregular (cond (alike_moved i) Regular (cond (once_moved i) Oriented Closed))

  -- ---- hem edges

  pub cond_moved : (t : Bool) (x d : Edge) → cond t (moved g x) (moved g d) ≡ moved g (cond t x d)
  cond_moved true x d = refl
  cond_moved false x d = refl

  pub cond_between : (t : Bool) (x d : Edge) → between ps x ≡ true → between ps d ≡ true → between ps (cond t x d) ≡ true
  cond_between true x d h k = h
  cond_between false x d h k = k

  -- the last use of the moved is the moved last use
  last_moved :
      (e d : Edge) → between ps e ≡ true → (es : List Edge) → every (between ps) es ≡ true
      → last_or (key (moved g e)) (moved g d) (map (moved g) es) ≡ moved g (last_or (key e) d es)
  last_moved e d k [] h = refl
  last_moved e d k (x ∷ es) h =
      ap (λ (c : Edge). last_or (key (moved g e)) c (map (moved g) es))
      (ap (λ (t : Bool). cond t (moved g x) (moved g d)) (keys_moved e x k (and_left (between ps x) (every (between ps) es) h))
      ∙ cond_moved (same (key e) (key x)) x d)
      ∙ last_moved e (cond (same (key e) (key x)) x d) k es (and_right (between ps x) (every (between ps) es) h)

  last_between : (k d : Edge) → between ps d ≡ true → (es : List Edge) → every (between ps) es ≡ true → between ps (last_or k d es) ≡ true
  last_between k d b [] h = b
  last_between k d b (x ∷ es) h =
      last_between k (cond (same k (key x)) x d) (cond_between (same k (key x)) x d (and_left (between ps x) (every (between ps) es) h) b) es
      (and_right (between ps x) (every (between ps) es) h)

  module _ (es : List Edge) (h : every (between ps) es ≡ true) (e : Edge) (b : between ps e ≡ true) where
    used_moved : some (λ d. same (key (moved g e)) (key d)) (map (moved g) es) ≡ some (λ d. same (key e) (key d)) es
    used_moved = some_moved (λ d. same (key e) (key d)) (λ d. same (key (moved g e)) (key d)) (λ d l. keys_moved e d b l) es h

    is_hem_moved : is_hem (map (moved g) es) (moved g e) ≡ is_hem es e
    is_hem_moved =
        by_cases (some (λ d. same (key e) (key d)) es)
        (λ u.
        ap₂ (λ (x y : Bool). x && y)
        (ap odd (uses_moved es h e b))
        (ap (same (moved g e)) (last_any (key (moved g e)) (key (moved g e)) (moved g e) (map (moved g) es) (used_moved ∙ u) ∙ last_moved e e b es h)
        ∙ same_moved e (last_or (key e) e es) b (last_between (key e) e b es h)
        ∙ ap (same e) (sym (last_any (key e) (key e) e es u))))
        (λ u.
        let n : uses (key e) es ≡ 0 = count_none (λ d. same (key e) (key d)) es u in
        ap (λ (k : ℕ). odd k && same (moved g e) (last_or (key (moved g e)) (key (moved g e)) (map (moved g) es))) (uses_moved es h e b ∙ n)
        ∙ sym (ap (λ (k : ℕ). odd k && same e (last_or (key e) (key e) es)) n))

    pub hems_moved : some (same (moved g e)) (hems (map (moved g) es)) ≡ some (same e) (hems es)
    hems_moved = hems_member (map (moved g) es) (moved g e) ∙ is_hem_moved ∙ sym (hems_member es e)
