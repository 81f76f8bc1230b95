-- Where a number first stands in a list, and what stands there. Assumes nothing.
use mathlib.Core.Path.{◌≡◌, refl, sym, ap, ◌∙◌}
use mathlib.Core.Bool.{true, false}
use mathlib.Core.List.{List, [], ◌∷◌, ◌++◌, map}
use Prim.Native.Nat.{ℕ, zero, suc, ◌<◌}
use native.Mathlib.Nat.{not-suc-le-zero, le_of_suc-le-suc}
use native.Mathlib.Omega.{arith}
use lib.ListN.{length, get_or}
use lib.Dec.{eqb}
use borrow.Author.Tests.{eqb-true}
use Rattle.lists.specs.Lists.{has}
use Rattle.lists.specs.FirstUses.{place}
use Rattle.lists.proofs.Bools.{by_cases, true_false, or_right, or_false_left, or_false_right}
use Rattle.lists.proofs.Members.{Once, in_head, in_tail}
use Rattle.lists.proofs.Others.{eqb_self, eqb_flip, once_head, once_tail}

module _ (u : ℕ) (us : List ℕ) (i : ℕ) where
  -- at the front, and behind it
  pub place_here : eqb i u ≡ true → place (u ∷ us) i ≡ 0
  unfolding place
  place_here e = rw (eqb_flip u i, e)

  pub place_behind : eqb i u ≡ false → place (u ∷ us) i ≡ suc (place us i)
  unfolding place
  place_behind e = rw (eqb_flip u i, e)

-- one that is there stands within the list
pub place_below : (us : List ℕ) (i : ℕ) → has i us ≡ true → place us i < length us
place_below [] i h = true_false (sym h)
place_below (u ∷ us) i h =
    by_cases (eqb i u)
    (λ e. rw (place_here u us i e) (omega arith))
    (λ e. rw (place_behind u us i e) (let l : place us i < length us = place_below us i (rw e at h) in omega arith))

-- what stands at its place is it
pub get_or-place : (us : List ℕ) (i : ℕ) → has i us ≡ true → get_or us (place us i) 0 ≡ i
get_or-place [] i h = true_false (sym h)
get_or-place (u ∷ us) i h =
    by_cases (eqb i u)
    (λ e. rw (place_here u us i e) (sym (eqb-true i u e)))
    (λ e. rw (place_behind u us i e) (get_or-place us i (rw e at h)))

-- so a number that stands in a list stands at some place
pub in_at : (x : ℕ) (l : List ℕ) → has x l ≡ true → (q : ℕ) × (q < length l) × (get_or l q 0 ≡ x)
in_at x l h = (place l x, place_below l x h, get_or-place l x h)

-- and two that have one place are one
pub place_one : (us : List ℕ) (i j : ℕ) → has i us ≡ true → has j us ≡ true → place us i ≡ place us j → i ≡ j
place_one us i j h k e = sym (get_or-place us i h) ∙ ap (λ (n : ℕ). get_or us n 0) e ∙ get_or-place us j k

-- more numbers behind do not move one that is there
pub place_append : (us vs : List ℕ) (i : ℕ) → has i us ≡ true → place (us ++ vs) i ≡ place us i
place_append [] vs i h = true_false (sym h)
place_append (u ∷ us) vs i h =
    by_cases (eqb i u)
    (λ e. place_here u (us ++ vs) i e ∙ sym (place_here u us i e))
    (λ e. place_behind u (us ++ vs) i e ∙ ap suc (place_append us vs i (rw e at h)) ∙ sym (place_behind u us i e))

-- one that is not there comes to stand behind all
pub place_new : (us : List ℕ) (i : ℕ) → has i us ≡ false → place (us ++ (i ∷ [])) i ≡ length us
place_new [] i h = place_here i [] i (eqb_self i)
place_new (u ∷ us) i h =
    place_behind u (us ++ (i ∷ [])) i (or_false_left (eqb i u) (has i us) h)
    ∙ ap suc (place_new us i (or_false_right (eqb i u) (has i us) h))

-- what stands at a place stands in the list
pub has_get_d : (us : List ℕ) (k : ℕ) → k < length us → has (get_or us k 0) us ≡ true
has_get_d [] k h = absurd (not-suc-le-zero h)
has_get_d (u ∷ us) zero h = rw (eqb_self u)
has_get_d (u ∷ us) (suc k) h = or_right (eqb (get_or us k 0) u) (has (get_or us k 0) us) (has_get_d us k (le_of_suc-le-suc h))

-- where each stands at most once, the place of what stands at k is k
pub place-get_or : (us : List ℕ) (k : ℕ) → Once us → k < length us → place us (get_or us k 0) ≡ k
place-get_or [] k o h = absurd (not-suc-le-zero h)
place-get_or (u ∷ us) zero o h = place_here u us u (eqb_self u)
place-get_or (u ∷ us) (suc k) o h =
    let l : k < length us = le_of_suc-le-suc h in
    by_cases
    (eqb (get_or us k 0) u)
    (λ e. true_false (sym (has_get_d us k l) ∙ ap (λ (x : ℕ). has x us) (eqb-true (get_or us k 0) u e) ∙ once_head u us o))
    (λ e. place_behind u us (get_or us k 0) e ∙ ap suc (place-get_or us k (once_tail u us o) l))

-- a number that is changed stands where it stood, where the change keeps it apart from the others
pub place_map :
    (f : ℕ → ℕ) (us : List ℕ) (i : ℕ) → ((j : ℕ) → has j us ≡ true → eqb (f i) (f j) ≡ eqb i j) → place (map f us) (f i) ≡ place us i
unfolding place
place_map f [] i h = refl
place_map f (u ∷ us) i h =
    by_cases
    (eqb i u)
    (λ e. place_here (f u) (map f us) (f i) (h u (in_head u us) ∙ e) ∙ sym (place_here u us i e))
    (λ e.
    place_behind (f u) (map f us) (f i) (h u (in_head u us) ∙ e)
    ∙ ap suc (place_map f us i (λ k q. h k (in_tail k u us q)))
    ∙ sym (place_behind u us i e))
