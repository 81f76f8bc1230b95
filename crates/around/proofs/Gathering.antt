-- A pass over edges in which each edge changes the entries of its two ends, each by the other end: at each position stands what its
-- neighbours make of it, one after the other, in their order. One law for every kind of entry. Assumes nothing.
use Rattle.std.proofs.Common.{◌≡◌, refl, sym, ap, ◌∙◌, subst, true, false, List, [], ◌∷◌, ◌++◌, map, ℕ, ◌<◌, eqb, length, get_or, replicate, length-set, get_or-set_same, get_or-set_other}
use Rattle.std.proofs.Common.{lt-length-set, eqb-true}
use mathlib.Core.List.{map-append}
use lib.ListN.{get_or-replicate}
use borrow.Author.Tests.{eqb-false}
use Rattle.lists.specs.Lists.{only}
use Rattle.lists.proofs.Bools.{by_cases}
use Rattle.lists.proofs.Only.{only_append}
use Rattle.verdicts.specs.Edges.{Edge}
use Rattle.smoothed.specs.Around.{ends, across}
use Rattle.around.specs.Rows.{neighbours_in}
use Rattle.around.specs.Steps.{one, both}

-- ---- the neighbours by further edges

pub neighbours_append : (es ks : List Edge) (v : ℕ) → neighbours_in (es ++ ks) v ≡ neighbours_in es v ++ neighbours_in ks v
unfolding neighbours_in
neighbours_append es ks v = ap (map (across v)) (only_append (ends v) es ks) ∙ map-append (across v) (only (ends v) es) (only (ends v) ks)

pub no_neighbours : (v : ℕ) → neighbours_in [] v ≡ []
unfolding neighbours_in
no_neighbours v = refl

-- one edge has one neighbour for each of its ends, and none for any other position
module _ (k : Edge) (v : ℕ) where
  pub at_lower : eqb v k.0 ≡ true → neighbours_in (k ∷ []) v ≡ (k.1 ∷ [])
  unfolding neighbours_in
  at_lower h = rw (h, h)

  pub at_higher : eqb v k.0 ≡ false → eqb v k.1 ≡ true → neighbours_in (k ∷ []) v ≡ (k.0 ∷ [])
  unfolding neighbours_in
  at_higher h g = rw (h, g) (rw h)

  pub elsewhere : eqb v k.0 ≡ false → eqb v k.1 ≡ false → neighbours_in (k ∷ []) v ≡ []
  unfolding neighbours_in
  elsewhere h g = rw (h, g)

-- ---- the pass

module _ {A : Type 0} where
  -- one after the other changes t
  abbrev pub steps : (ℕ → A → A) → A → List ℕ → A
  steps f t [] = t
  steps f t (w ∷ ws) = steps f (f w t) ws

  steps_append : (f : ℕ → A → A) (t : A) (ws us : List ℕ) → steps f t (ws ++ us) ≡ steps f (steps f t ws) us
  steps_append f t [] us = refl
  steps_append f t (w ∷ ws) us = steps_append f (f w t) ws us

-- each entry of n has been changed by its neighbours among es, beginning with t
pub record Gathered {A : Type 0} (step : ℕ → ℕ → A → A) (t : A) (n : ℕ) (es : List Edge) (entry : ℕ → A) : Type 0 where
  pub at : (v : ℕ) → v < n → entry v ≡ steps (step v) t (neighbours_in es v)

-- the entry of v has been changed by w, and no other
pub record Visited {A : Type 0} (step : ℕ → ℕ → A → A) (v w : ℕ) (x y : ℕ → A) : Type 0 where
  pub here : y v ≡ step v w (x v)
  pub there : (u : ℕ) → (u ≡ v → ⊥) → y u ≡ x u

module _ {A : Type 0} {step : ℕ → ℕ → A → A} {x y : ℕ → A} where
  visited_at : {v w : ℕ} (u : ℕ) → v ≡ u → Visited step v w x y → y u ≡ step u w (x u)
  visited_at {v} {w} u q a = subst (λ (i : ℕ). y i ≡ step i w (x i)) q a.here

module _ {A : Type 0} (step : ℕ → ℕ → A → A) (t : A) (n : ℕ) where
  pub gather_begins : (x : ℕ → A) → ((v : ℕ) → v < n → x v ≡ t) → Gathered step t n [] x
  unfolding neighbours_in
  gather_begins x h = record { at = h }

  -- at both ends of one edge more
  turned :
      {x y z : ℕ → A} (k : Edge) → (k.0 ≡ k.1 → ⊥) → Visited step k.0 k.1 x y → Visited step k.1 k.0 y z
      → (v : ℕ) (s : A) → x v ≡ s → z v ≡ steps (step v) s (neighbours_in (k ∷ []) v)
  turned {x} {y} {z} k apart a b v s e =
      by_cases (eqb v k.0)
      (λ l.
      let q : k.0 ≡ v = sym (eqb-true v k.0 l) in
      rw (at_lower k v l) (b.there v (λ r. apart (q ∙ r)) ∙ visited_at v q a ∙ ap (step v k.1) e))
      (λ l.
      by_cases (eqb v k.1)
      (λ h.
      let q : k.1 ≡ v = sym (eqb-true v k.1 h) in
      rw (at_higher k v l h) (visited_at v q b ∙ ap (step v k.0) (a.there v (eqb-false v k.0 l) ∙ e)))
      (λ h. rw (elsewhere k v l h) (b.there v (eqb-false v k.1 h) ∙ a.there v (eqb-false v k.0 l) ∙ e)))

  pub gather_turns :
      {es : List Edge} {x y z : ℕ → A} (k : Edge) → (k.0 ≡ k.1 → ⊥) → Visited step k.0 k.1 x y → Visited step k.1 k.0 y z
      → Gathered step t n es x → Gathered step t n (es ++ (k ∷ [])) z
  gather_turns {es} k apart a b g = record {
    at = λ v h.
        turned k apart a b v (steps (step v) t (neighbours_in es v)) (g.at v h)
        ∙ sym (steps_append (step v) t (neighbours_in es v) (neighbours_in (k ∷ []) v))
        ∙ sym (ap (steps (step v) t) (neighbours_append es (k ∷ []) v));
  }

-- ---- a list of entries

-- an edge of two of m places
pub record Joins (m : ℕ) (k : Edge) : Type 0 where
  pub apart : k.0 ≡ k.1 → ⊥
  pub lower_below : k.0 < m
  pub higher_below : k.1 < m

module _ {A : Type 0} (d : A) (step : ℕ → ℕ → A → A) where
  one_visited : (l : List A) (v w : ℕ) → v < length l → Visited step v w (λ u. get_or l u d) (λ u. get_or (one d step v w l) u d)
  one_visited l v w h = record {
    here = get_or-set_same l v (step v w (get_or l v d)) d h;
    there = λ u q. get_or-set_other l v u (step v w (get_or l v d)) d q;
  }

  pub both_long : (k : Edge) (l : List A) → length (both d step k l) ≡ length l
  both_long k l = simp length-set

  pub both_gathers :
      (t : A) (n : ℕ) {es : List Edge} (k : Edge) (l : List A) → Joins (length l) k → Gathered step t n es (λ u. get_or l u d)
      → Gathered step t n (es ++ (k ∷ [])) (λ u. get_or (both d step k l) u d)
  both_gathers t n k l j g =
      let first : List A = one d step k.0 k.1 l in
      gather_turns step t n k j.apart
      (one_visited l k.0 k.1 j.lower_below)
      (one_visited first k.1 k.0 (lt-length-set l k.0 (step k.0 k.1 (get_or l k.0 d)) j.higher_below))
      g

-- what a list is filled with stands at each place
pub filled_begins :
    {A : Type 0} (d : A) (step : ℕ → ℕ → A → A) (t : A) (l : List A) (n : ℕ) → l ≡ replicate n t → Gathered step t n [] (λ u. get_or l u d)
filled_begins d step t l n e =
    gather_begins step t n (λ u. get_or l u d) (λ v h. ap (λ (s : List _). get_or s v d) e ∙ get_or-replicate n v t d h)
