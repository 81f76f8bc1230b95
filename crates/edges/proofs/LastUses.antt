-- The last uses of the edges with an odd number of uses, in ascending order of the edges, are the hem edges. Assumes nothing.
use mathlib.Core.Path.{◌≡◌, refl, ap, ◌∙◌}
use mathlib.Core.Bool.{Bool, true, false, cond}
use mathlib.Core.List.{List, [], ◌∷◌, map}
use Prim.Native.Nat.{ℕ}
use lib.ListN.{length}
use lib.Dec.{leb, eqb}
use Rattle.lists.specs.Lists.{keep_if, only, each, last_of, span}
use Rattle.lists.proofs.Buckets.{each_cong, length_only}
use Rattle.lists.proofs.Mapping.{map_each, map_last, each_only}
use Rattle.verdicts.specs.Edges.{Edge, same, flip, key, keys, uses, odd, last_or, hems}
use Rattle.scans.specs.Runs.{last_odd, start_at, end_at}
use Rattle.verdicts.proofs.Ascending.{keys_asc}
use Rattle.edges.proofs.Scans.{odd_last, odd_each, keyed_only}
use Rattle.uses.proofs.Reading.{use_at, lowers, highers, downs, lower_at, higher_at, down_at}
use Rattle.edges.proofs.Grouped.{group_at, group_uses, group_length}

-- ---- the last of a list

module _ {A : Type 0} where
  -- the last element, or d where there is none
  last_else : A → List A → A
  last_else d [] = d
  last_else d (x ∷ l) = last_else x l

  last_of_lem : (x : A) (l : List A) → last_of (x ∷ l) ≡ last_else x l ∷ []
  unfolding last_else
  last_of_lem x [] = refl
  last_of_lem x (y ∷ l) = last_of_lem y l

-- ---- the last use of an edge

abbrev uses_of : Edge → List Edge → List Edge
uses_of k es = only (λ e. same k (key e)) es

last_use : (k d : Edge) (es : List Edge) → last_or k d es ≡ last_else d (uses_of k es)
unfolding last_else
last_use k d [] = refl
last_use k d (e ∷ es) = go (same k (key e)) (last_use k e es) (last_use k d es)
  where
    go :
        (b : Bool) → last_or k e es ≡ last_else e (uses_of k es) → last_or k d es ≡ last_else d (uses_of k es)
        → last_or k (cond b e d) es ≡ last_else d (keep_if b e (uses_of k es))
    go true p q = p
    go false p q = q

-- of an edge with an odd number of uses the last one, of another nothing
odd_last_lem : (k : Edge) (es : List Edge) → cond (odd (uses k es)) (last_of (uses_of k es)) [] ≡ keep_if (odd (uses k es)) (last_or k k es) []
unfolding last_else
odd_last_lem k es = rw (last_use k k es) (go (uses_of k es) (uses k es) (length_only (λ e. same k (key e)) es))
  where
    go : (l : List Edge) (n : ℕ) → length l ≡ n → cond (odd n) (last_of l) [] ≡ keep_if (odd n) (last_else k l) []
    go [] n h = rw (← h)
    go (x ∷ l) n h = pick (odd n)
      where
        pick : (b : Bool) → cond b (last_of (x ∷ l)) [] ≡ keep_if b (last_else x l) []
        pick true = last_of_lem x l
        pick false = refl

module _ (es : List Edge) where
  odd_group : (k : Edge) → map (use_at es) (odd_last (group_at es k)) ≡ keep_if (odd (uses k es)) (last_or k k es) []
  odd_group k =
      ap (λ (n : ℕ). map (use_at es) (cond (odd n) (last_of (group_at es k)) [])) (group_length es k)
      ∙ go (odd (uses k es))
      ∙ odd_last_lem k es
    where
      go : (b : Bool) → map (use_at es) (cond b (last_of (group_at es k)) []) ≡ cond b (last_of (uses_of k es)) []
      go true = map_last (use_at es) (group_at es k) ∙ ap last_of (group_uses es k)
      go false = refl

  -- the scan's uses are the hem edges
  pub hem_uses : map (use_at es) (last_odd (lowers es) (highers es) false (each (group_at es) (keys es))) ≡ hems es
  unfolding hems
  hem_uses =
      ap (map (use_at es)) (odd_each (lowers es) (highers es) (group_at es) (λ k. keyed_only (lowers es) (highers es) k (span 0 (length es))) (keys es) (keys_asc es))
      ∙ map_each (use_at es) (λ k. odd_last (group_at es k)) (keys es)
      ∙ each_cong _ (λ k. keep_if (odd (uses k es)) (last_or k k es) []) odd_group (keys es)
      ∙ each_only (λ k. last_or k k es) (λ k. odd (uses k es)) (keys es)

  -- where a use starts and ends, read from the columns
  pub start_is : (u : ℕ) → start_at (lowers es) (highers es) (downs es) u ≡ (use_at es u).0
  unfolding key
  start_is u = rw (lower_at es u, higher_at es u, down_at es u) (go (leb (use_at es u).0 (use_at es u).1))
    where
      go : (b : Bool) → cond (eqb (cond b 0 1) 1) (cond b (use_at es u) (flip (use_at es u))).1 (cond b (use_at es u) (flip (use_at es u))).0 ≡ (use_at es u).0
      go true = refl
      go false = refl

  pub end_is : (u : ℕ) → end_at (lowers es) (highers es) (downs es) u ≡ (use_at es u).1
  unfolding key
  end_is u = rw (lower_at es u, higher_at es u, down_at es u) (go (leb (use_at es u).0 (use_at es u).1))
    where
      go : (b : Bool) → cond (eqb (cond b 0 1) 1) (cond b (use_at es u) (flip (use_at es u))).0 (cond b (use_at es u) (flip (use_at es u))).1 ≡ (use_at es u).1
      go true = refl
      go false = refl
