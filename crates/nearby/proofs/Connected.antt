-- 'Groups are the connected sets of near points. A group is walked from its lowest index', as a law of the definition `groups`: each
-- point stands in exactly one group, once; two points stand in one group exactly where a chain of near points leads from the one to the
-- other; and each group begins with its lowest index. Assumes nothing.
use mathlib.Core.Path.{◌≡◌, refl, sym, ap, ◌∙◌, subst}
use mathlib.Core.Bool.{Bool, true, false}
use mathlib.Core.List.{List, [], ◌∷◌, ◌++◌}
use Prim.Native.Nat.{ℕ, zero, suc, ◌/◌, ◌≤◌, ◌<◌}
use native.Mathlib.Omega.{arith}
use lib.Dec.{ltb}
use lib.ListN.{length}
use borrow.Author.Tests.{lt-ltb, ltb-true, ltb-false}
use Rattle.lists.specs.Lists.{every, has, joined}
use Rattle.lists.proofs.Bools.{by_cases, and_both}
use Rattle.lists.proofs.Counting.{clash}
use Rattle.lists.proofs.Parts.{every_append}
use Rattle.lists.proofs.Members.{In, Once, once_in, in_tail}
use Rattle.lists.proofs.Others.{has_every, once_head}
use Rattle.nearby.specs.Pairs.{near_at}
use Rattle.nearby.specs.Walk.{unless_has, group_from, groups_below, groups}
use Rattle.nearby.specs.Promises.{Near, lowest_first, ConnectedSets, GroupsConnected}
use Rattle.nearby.proofs.Both.{near_both}
use Rattle.lists.proofs.Classes.{Ended, Parted, parted_none, parted_same, parted_more, together_reach, reach_together}
use Rattle.nearby.proofs.Reaching.{group_first, group_ended}

-- ---- the groups of the points below k

module _ (r : ℕ → ℕ → Bool) (n : ℕ) (both : (i j : ℕ) → r i j ≡ r j i) where
  record Grouped (k : ℕ) (gs : List (List ℕ)) : Type 0 where
    parted : Parted (Near r n) n k gs
    first : every lowest_first gs ≡ true

  -- a list that begins with k, its lowest
  low : (k : ℕ) (rest : List ℕ) → Once (k ∷ rest) → ((x : ℕ) → In x (k ∷ rest) → k ≤ x) → every (ltb k) rest ≡ true
  low k rest o h =
      has_every
      (ltb k)
      rest
      (λ x q.
      let l : k ≤ x = h x (in_tail x k rest q) in
      let ne : x ≡ k → ⊥ = λ e. clash (subst (λ (y : ℕ). In y rest) e q) (once_head k rest o) in
      lt-ltb k x (omega (arith, ne)))

  -- the points below k are taken, so what is new is not below it
  group_low : (k : ℕ) (gs : List (List ℕ)) → k < n → has k (joined gs) ≡ false → Parted (Near r n) n k gs → lowest_first (group_from r n (joined gs) k) ≡ true
  group_low k gs l e p =
      let f : (rest : List ℕ) × (group_from r n (joined gs) k ≡ k ∷ rest) = group_first r n (joined gs) k l e in
      let d : Ended (Near r n) (joined gs) k (group_from r n (joined gs) k) = group_ended r n (joined gs) k l e in
      ap lowest_first f.1
      ∙ low
      k
      f.0
      (subst Once f.1 d.once)
      (λ x q.
      by_cases
      (ltb x k)
      (λ t. clash (p.placed x (ltb-true x k t)) (d.fresh x (subst (In x) (sym f.1) q)))
      (λ t. ltb-false x k t))

  grouped_more : (k : ℕ) (gs : List (List ℕ)) → k < n → Grouped k gs → (b : Bool) → has k (joined gs) ≡ b → Grouped (suc k) (unless_has b gs (gs ++ (group_from r n (joined gs) k ∷ [])))
  grouped_more k gs l g true e = record { parted = parted_same (Near r n) n k gs g.parted e; first = g.first }
  grouped_more k gs l g false e = record {
    parted =
        parted_more
        (Near r n)
        n
        (λ x y h. (h.1, h.0, both y x ∙ h.2))
        (λ x y h. h.1)
        k
        gs
        l
        g.parted
        (group_from r n (joined gs) k)
        (group_ended r n (joined gs) k l e);
    first =
        every_append lowest_first gs (group_from r n (joined gs) k ∷ [])
        ∙ and_both
        (every lowest_first gs)
        (every lowest_first (group_from r n (joined gs) k ∷ []))
        g.first
        (and_both (lowest_first (group_from r n (joined gs) k)) true (group_low k gs l e g.parted) refl);
  }

  grouped_below : (k : ℕ) → k ≤ n → Grouped k (groups_below r n k)
  unfolding groups_below
  grouped_below zero h = record { parted = parted_none (Near r n) n; first = refl }
  grouped_below (suc k) h = grouped_more k (groups_below r n k) h (grouped_below k (omega arith)) (has k (joined (groups_below r n k))) refl

  pub connected_sets : ConnectedSets r n (groups r n)
  unfolding groups
  connected_sets =
      let g : Grouped n (groups_below r n n) = grouped_below n (omega arith) in
      record {
        once = λ i l. once_in (joined (groups_below r n n)) g.parted.once i (g.parted.placed i l);
        inside = g.parted.inside;
        chained = together_reach (Near r n) (groups_below r n n) g.parted.classes;
        grouped = λ i j l t. reach_together (Near r n) (groups_below r n n) g.parted.classes i j (g.parted.placed i l) t;
        lowest = g.first;
      }

-- the groups of the points of a list s, of width w, at a tolerance t
pub groups_connected : GroupsConnected
groups_connected t w s = connected_sets (near_at t w s) (length s / w) (near_both t w s)
