-- The numbers of edges, and the new position on each: an edge can be told from it. Assumes nothing.
use mathlib.Core.Path.{◌≡◌, refl, sym, ap, ◌∙◌}
use mathlib.Core.Bool.{Bool, true, false, cond, ◌||◌}
use mathlib.Core.List.{List, [], ◌∷◌}
use Prim.Native.Nat.{ℕ, suc, ◌+◌, ◌-◌, ◌≤◌, ◌<◌}
use native.Mathlib.Omega.{arith}
use lib.ListN.{length, get_or}
use Rattle.lists.specs.Lists.{some}
use Rattle.lists.proofs.Counting.{clash}
use Rattle.verdicts.specs.Edges.{Edge, same, key}
use Rattle.verdicts.proofs.SameEdge.{same_true}
use Rattle.smoothed.specs.Smoothed.{place, middle}

-- an edge that stands in the list stands at its place
pub place_below : (ks : List Edge) (k : Edge) → some (same k) ks ≡ true → place ks k < length ks
unfolding place
place_below [] k h = clash h refl
place_below (j ∷ ks) k h = go (same k j) h (place_below ks k)
  where
    go :
        (b : Bool) → (b || some (same k) ks) ≡ true → (some (same k) ks ≡ true → place ks k < length ks)
        → cond b 0 (suc (place ks k)) < suc (length ks)
    go true h r = omega arith
    go false h r = let l : place ks k < length ks = r h in omega arith

pub get_or-place : (ks : List Edge) (k : Edge) → some (same k) ks ≡ true → get_or ks (place ks k) (0, 0) ≡ k
unfolding place
get_or-place [] k h = clash h refl
get_or-place (j ∷ ks) k h = go (same k j) refl h (get_or-place ks k)
  where
    go :
        (b : Bool) → same k j ≡ b → (b || some (same k) ks) ≡ true → (some (same k) ks ≡ true → get_or ks (place ks k) (0, 0) ≡ k)
        → get_or (j ∷ ks) (cond b 0 (suc (place ks k))) (0, 0) ≡ k
    go true e h r = sym (same_true k j e)
    go false e h r = r h

module _ (n : ℕ) (ks : List Edge) where
  pub middle_above : (e : Edge) → n ≤ middle n ks e
  unfolding middle
  middle_above e = omega arith

  pub middle_below : (e : Edge) → some (same (key e)) ks ≡ true → middle n ks e < n + length ks
  unfolding middle
  middle_below e h = let l : place ks (key e) < length ks = place_below ks (key e) h in omega arith

  -- direction is nothing to it
  pub middle_key : (d e : Edge) → key d ≡ key e → middle n ks d ≡ middle n ks e
  unfolding middle
  middle_key d e q = ap (λ k. n + place ks k) q

  -- the edge that a new position stands on
  unfoldable pub edge_at : ℕ → Edge
  edge_at i = get_or ks (i - n) (0, 0)

  pub edge_at_middle : (e : Edge) → some (same (key e)) ks ≡ true → edge_at (middle n ks e) ≡ key e
  unfolding middle edge_at
  edge_at_middle e h =
      let s : n + place ks (key e) - n ≡ place ks (key e) = omega arith in
      ap (λ i. get_or ks i (0, 0)) s ∙ get_or-place ks (key e) h

  pub middle_one :
      (d e : Edge) → some (same (key d)) ks ≡ true → some (same (key e)) ks ≡ true → middle n ks d ≡ middle n ks e → key d ≡ key e
  middle_one d e h k q = sym (edge_at_middle d h) ∙ ap edge_at q ∙ edge_at_middle e k
