-- Which points become one: two points of a list become the same point exactly where a chain of near points leads from the one to the
-- other; and what a point becomes is a point of its own group. Assumes nothing.
use mathlib.Core.Path.{◌≡◌, refl, sym, ◌∙◌, subst}
use mathlib.Core.Logic.{⊎_elim}
use mathlib.Core.Bool.{Bool, true, false, cond, ◌&&◌, ◌||◌}
use mathlib.Core.List.{List, [], ◌∷◌}
use Prim.Native.Nat.{ℕ, ◌/◌, ◌<◌}
use native.Mathlib.Omega.{arith}
use lib.Dec.{eqb}
use lib.ListN.{length}
use lib.Ieee.{Float, lt}
use Rattle.lists.specs.Lists.{has, joined, together}
use Rattle.lists.proofs.Bools.{by_cases, or_left}
use Rattle.lists.proofs.Cases.{and_parts}
use Rattle.lists.proofs.Chains.{Reach, reach_trans, reach_sym}
use Rattle.lists.proofs.Counting.{clash, or_either, count_none, some_counted}
use Rattle.lists.proofs.Members.{In, in_cases, in_head, in_tail, in_left, in_right, in_append, Once, once_apart, once_rear}
use Rattle.floating.specs.Points.{row}
use Rattle.floating.specs.Near.{squared}
use Rattle.nearby.specs.Pairs.{near_at}
use Rattle.nearby.specs.Walk.{groups}
use Rattle.nearby.proofs.Both.{near_both}
use Rattle.nearby.specs.Promises.{Near, ConnectedSets}
use Rattle.nearby.proofs.Connected.{groups_connected}
use Rattle.together.specs.Centre.{Best, best, centre_of, closest, pick, representative, sent_to}
use Rattle.together.specs.Merging.{merged_to}
use Rattle.together.specs.Promises.{ChainedBecomeOne, OnlyChainedBecomeOne}

-- ---- the representative stands in its group

module _ (w : ℕ) (s : List Float) where
  closest_in : (c : List Float) (b : Best) (g : List ℕ) → In (closest w s c b g).index (b.index ∷ g)
  unfolding closest
  closest_in c b [] = in_head b.index []
  closest_in c b (i ∷ g) =
      let d : Float = squared (row w s i) c in
      go d (lt d b.distance) (closest_in c (best d i) g) (closest_in c b g)
    where
      go :
          (d : Float) (t : Bool)
          → In (closest w s c (best d i) g).index (i ∷ g)
          → In (closest w s c b g).index (b.index ∷ g)
          → In (closest w s c (cond t (best d i) b) g).index (b.index ∷ i ∷ g)
      go d true p q = in_tail (closest w s c (best d i) g).index b.index (i ∷ g) p
      go d false p q =
          ⊎_elim
          (λ e. subst (λ (x : ℕ). In x (b.index ∷ i ∷ g)) (sym e) (in_head b.index (i ∷ g)))
          (λ h. in_tail (closest w s c b g).index b.index (i ∷ g) (in_tail (closest w s c b g).index i g h))
          (in_cases (closest w s c b g).index b.index g q)

  representative_in : (i : ℕ) (g : List ℕ) → In i g → In (representative w s g) g
  unfolding representative
  representative_in i [] h = h
  representative_in i (j ∷ g) h =
      let c : List Float = centre_of w s (j ∷ g) in closest_in c (best (squared (row w s j) c) j) g

  -- ---- where a point is sent

  sent_in : (gs : List (List ℕ)) (i : ℕ) → In i (joined gs) → together i (sent_to w s gs i) gs ≡ true
  unfolding sent_to
  sent_in [] i h = h
  sent_in (g ∷ gs) i h =
      let s_in : Bool → Type 0 = λ (b : Bool).
      ((b && has (pick b (representative w s g) (sent_to w s gs i)) g)
      || together i (pick b (representative w s g) (sent_to w s gs i)) gs)
      ≡ true in
      by_cases
      (has i g)
      (λ e. subst s_in (sym e) (or_left (has (representative w s g) g) (together i (representative w s g) gs) (representative_in i g e)))
      (λ e. subst s_in (sym e) (sent_in gs i (⊎_elim (λ p. clash p e) (λ p. p) (in_append i g (joined gs) h))))

  -- both of two that stand together stand in the lists
  both_in : (gs : List (List ℕ)) (i j : ℕ) → together i j gs ≡ true → In i (joined gs) × In j (joined gs)
  both_in [] i j h = clash h refl
  both_in (g ∷ gs) i j h =
      ⊎_elim
      (λ p.
      let t : (has i g ≡ true) × (has j g ≡ true) = and_parts (has i g) (has j g) p in
      (in_left i g (joined gs) t.0, in_left j g (joined gs) t.1))
      (λ p.
      let t : In i (joined gs) × In j (joined gs) = both_in gs i j p in
      (in_right i g (joined gs) t.0, in_right j g (joined gs) t.1))
      (or_either (has i g && has j g) (together i j gs) h)

  sent_same : (gs : List (List ℕ)) (i j : ℕ) → Once (joined gs) → together i j gs ≡ true → sent_to w s gs i ≡ sent_to w s gs j
  unfolding sent_to
  sent_same [] i j o h = clash h refl
  sent_same (g ∷ gs) i j o h =
      ⊎_elim
      (λ p. let t : (has i g ≡ true) × (has j g ≡ true) = and_parts (has i g) (has j g) p in rw (t.0, t.1))
      (λ p.
      let t : In i (joined gs) × In j (joined gs) = both_in gs i j p in
      rw (away i t.0, away j t.1) (sent_same gs i j (once_rear g (joined gs) o) p))
      (or_either (has i g && has j g) (together i j gs) h)
    where
      away : (x : ℕ) → In x (joined gs) → has x g ≡ false
      away x q = by_cases (has x g) (λ e. once_apart x g (joined gs) o e q) (λ e. e)

-- ---- the points of a list

module _ (t : Float) (w : ℕ) (s : List Float) where
  abbrev n : ℕ
  n = length s / w

  abbrev gs : List (List ℕ)
  gs = groups (near_at t w s) n

  connected : ConnectedSets (near_at t w s) n gs
  connected = groups_connected t w s

  placed : (i : ℕ) → i < n → In i (joined gs)
  placed i l = some_counted (eqb i) (joined gs) (omega (arith, connected.once i l))

  each_once : Once (joined gs)
  each_once x =
      by_cases
      (has x (joined gs))
      (λ h. omega (arith, connected.once x (connected.inside x h)))
      (λ h. omega (arith, count_none (eqb x) (joined gs) h))

  -- what a point becomes is connected to it
  pub merged_connected : (i : ℕ) → i < n → Reach (Near (near_at t w s) n) i (merged_to t w s i)
  unfolding merged_to
  merged_connected i l = connected.chained i (sent_to w s gs i) (sent_in w s gs i (placed i l))

  -- points that a chain connects become one, and no others do
  pub connected_merged : ChainedBecomeOne t w s
  unfolding merged_to
  connected_merged i j l r = sent_same w s gs i j each_once (connected.grouped i j l r)

  pub merged_chained : OnlyChainedBecomeOne t w s
  merged_chained i j l m e =
      reach_trans
      (merged_connected i l)
      (reach_sym
      (λ x y h. (h.1, h.0, near_both t w s y x ∙ h.2))
      (subst (λ (k : ℕ). Reach (Near (near_at t w s) n) j k) (sym e) (merged_connected j m)))
