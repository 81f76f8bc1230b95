-- The loops that turn from a place to the place of a hem edge, and do so for all. Assumes nothing.
use mathlib.Core.Path.{◌≡◌, refl, sym, ap, ◌∙◌, subst}
use mathlib.Core.List.{List}
use Prim.Native.Nat.{ℕ, zero, suc, ◌+◌, ◌-◌, ◌≤◌, ◌<◌}
use native.Mathlib.Omega.{arith}
use lib.ListN.{length, get_or, set}
use borrow.Author.Tests.{eq-eqb, ne_eqb}
use Rattle.lists.proofs.Buckets.{length_table, table_at}
use Rattle.lists.proofs.Writing.{Copying, copy_ends}
use Rattle.lists.proofs.Copies.{front_turns, sets_whole}
use Rattle.turning.specs.Rows.{place_from}
use Rattle.crossing.specs.Crossing.{follow_of, follow_row, Found}

module _ (after twins : List ℕ) where
  -- ---- one step

  -- the place of a hem edge stays, however many steps are left
  place_stays : (u n : ℕ) → get_or twins u 0 ≡ u → place_from after twins n u ≡ u
  unfolding place_from
  place_stays u zero h = refl
  place_stays u (suc n) h = rw (eq-eqb (get_or twins u 0) u h, place_from)

  place_on :
      (u n : ℕ) → (get_or twins u 0 ≡ u → ⊥) → place_from after twins (suc n) u ≡ place_from after twins n (get_or after (get_or twins u 0) 0)
  unfolding place_from
  place_on u n h = rw (ne_eqb (get_or twins u 0) u h, place_from)

  -- ---- step by step: i of them are taken

  pub record Turning (u place i : ℕ) : Type 0 where
    pub inside : place < length twins
    pub rest : place_from after twins (length twins - i) place ≡ place_from after twins (length twins) u

  pub turn_turns :
      (u place i next : ℕ) → i < length twins → (get_or twins place 0 ≡ place → ⊥)
      → Found (length twins) next (get_or after (get_or twins place 0) 0) → Turning u place i → Turning u next (i + 1)
  turn_turns u place i next lt h f t =
      let n : suc (length twins - (i + 1)) ≡ length twins - i = omega arith in
      record {
        inside = f.inside;
        rest =
            ap (place_from after twins (length twins - (i + 1))) f.found
            ∙ sym (place_on place (length twins - (i + 1)) h)
            ∙ ap (λ (m : ℕ). place_from after twins m place) n
            ∙ t.rest;
      }

  -- the place of a hem edge is reached; no step is left
  pub turn_stays : (u place i : ℕ) → get_or twins place 0 ≡ place → Turning u place i → Found (length twins) place (place_from after twins (length twins) u)
  turn_stays u place i h t = record { found = sym (place_stays place (length twins - i) h) ∙ t.rest; inside = t.inside }

  pub turn_ends : (u place i : ℕ) → length twins ≤ i → Turning u place i → Found (length twins) place (place_from after twins (length twins) u)
  unfolding place_from
  turn_ends u place i h t =
      let n : 0 ≡ length twins - i = omega arith in
      record { found = ap (λ (m : ℕ). place_from after twins m place) n ∙ t.rest; inside = t.inside }

  -- ---- what follows

  pub follow_turned :
      (u r : ℕ) → get_or twins u 0 ≡ u → Found (length twins) r (place_from after twins (length twins) (get_or after u 0))
      → Found (length twins) r (follow_of after twins u)
  unfolding follow_of
  follow_turned u r e f = record { found = f.found ∙ sym (rw (eq-eqb (get_or twins u 0) u e)); inside = f.inside }

  pub follow_own : (u : ℕ) → u < length twins → (get_or twins u 0 ≡ u → ⊥) → Found (length twins) u (follow_of after twins u)
  unfolding follow_of
  follow_own u h ne = record { found = sym (rw (ne_eqb (get_or twins u 0) u ne)); inside = h }

  -- ---- of all places

  pub length_follows : length (follow_row after twins) ≡ length twins
  length_follows = length_table (follow_of after twins) (length twins)

  pub follows_at : (u : ℕ) → u < length twins → get_or (follow_row after twins) u 0 ≡ follow_of after twins u
  follows_at u h = table_at (follow_of after twins) (length twins) u 0 h

  module _ (l₀ : List ℕ) where
    pub follow_turns :
        (l : List ℕ) (u v : ℕ) → u < length twins → Found (length twins) v (follow_of after twins u) → Copying (follow_row after twins) l₀ l 0 u
        → Copying (follow_row after twins) l₀ (set l u v) 0 (u + 1)
    follow_turns l u v h f c =
        subst (λ (x : ℕ). Copying (follow_row after twins) l₀ (set l u x) 0 (u + 1)) (follows_at u h ∙ sym f.found)
        (front_turns 0 (follow_row after twins) l₀ l u (let k : _ = length_follows in omega arith) c)

    pub follow_ends : (l : List ℕ) (u : ℕ) → length l₀ ≡ length twins → length twins ≤ u → Copying (follow_row after twins) l₀ l 0 u → l ≡ follow_row after twins
    follow_ends l u e h c =
        copy_ends 0 (follow_row after twins) l₀ l 0 u (let k : _ = length_follows in omega arith) c
        ∙ sets_whole l₀ (follow_row after twins) (length_follows ∙ sym e)
