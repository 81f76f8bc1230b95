-- The groups, one after the other: what is laid out when the points below i have their groups. That of a point that begins one stands
-- in NewGroup. Assumes nothing.
use mathlib.Core.Path.{◌≡◌, refl, sym, ap, ◌∙◌}
use mathlib.Core.Bool.{Bool, true, false}
use mathlib.Core.List.{List}
use Prim.Native.Nat.{ℕ, suc, ◌+◌, ◌≤◌, ◌<◌}
use native.Mathlib.Omega.{arith}
use lib.Dec.{eqb}
use lib.ListN.{length, get_or, take, replicate}
use borrow.Author.Tests.{eqb-true, eqb-false}
use Rattle.lists.specs.Lists.{has, joined}
use Rattle.lists.proofs.Bools.{by_cases}
use Rattle.mesh.specs.Limits.{entry_limit}
use Rattle.nearby.specs.Walk.{groups_below, groups}
use Rattle.nearby.specs.Engine.{Taken, start_of, group_at, laid_out, Components}
use Rattle.nearby.proofs.Counting.{count_le}
use Rattle.nearby.proofs.Flags.{room, taken_none}
use Rattle.nearby.proofs.Laying.{old_group, count_full, laid_none}

pub record Gathering
    (r : ℕ → ℕ → Bool) (n : ℕ) (order ends : List ℕ) (seen : List Bool) (taken found i : ℕ) : Type 0 where
  pub upto : i ≤ n
  pub held : Taken n order seen taken
  pub lowest : (k : ℕ) → k < i → get_or seen k false ≡ true
  pub list : take taken order ≡ joined (groups_below r n i)
  pub are : laid_out order ends found ≡ groups_below r n i
  pub last : start_of ends found ≡ taken
  pub few : found ≤ taken
  pub rising : (k : ℕ) → k < found → start_of ends k < get_or ends k 0
  pub within : (k : ℕ) → k < found → get_or ends k 0 ≤ taken
  pub apart : (k j : ℕ) → k < found → has j (joined (laid_out order ends k)) ≡ true → has j (group_at order ends k) ≡ false

nothing_below : {A : Type 0} (k : ℕ) → k < 0 → A
nothing_below k l = absurd (let z : suc k ≤ 0 = l in omega arith)

pub gather_begins :
    (r : ℕ → ℕ → Bool) (n : ℕ) (order ends : List ℕ)
    → n ≤ entry_limit
    → n ≤ length order
    → Gathering r n order ends (replicate entry_limit false) 0 0 0
unfolding groups_below
gather_begins r n order ends h l = record {
  upto = omega arith;
  held = taken_none n entry_limit order l h;
  lowest = λ k z. nothing_below k z;
  list = refl;
  are = laid_none order ends;
  last = refl;
  few = omega arith;
  rising = λ k z. nothing_below k z;
  within = λ k z. nothing_below k z;
  apart = λ k j z. nothing_below k z;
}

module _
    {r : ℕ → ℕ → Bool} {n : ℕ} {order ends : List ℕ} {seen : List Bool} {taken found i : ℕ}
    (g : Gathering r n order ends seen taken found i) where
  abbrev gs : List (List ℕ)
  gs = groups_below r n i

  pub has_flag : (k : ℕ) → k < n → get_or seen k false ≡ has k (joined gs)
  has_flag k l = g.held.flags k l ∙ ap (has k) g.list

  -- point i has its group already
  pub gather_old : i < n → get_or seen i false ≡ true → Gathering r n order ends seen taken found (i + 1)
  gather_old l e =
      let same : groups_below r n (i + 1) ≡ gs = old_group r n i (sym (has_flag i l) ∙ e) in
      record {
        upto = omega arith;
        held = g.held;
        lowest = λ k h.
            by_cases (eqb k i)
            (λ t. ap (λ (x : ℕ). get_or seen x false) (eqb-true k i t) ∙ e)
            (λ t. g.lowest k (let ne : k ≡ i → ⊥ = eqb-false k i t in let z : k < i + 1 = h in omega arith));
        list = g.list ∙ ap joined (sym same);
        are = g.are ∙ sym same;
        last = g.last;
        few = g.few;
        rising = g.rising;
        within = g.within;
        apart = g.apart;
      }

  -- there is room for one group more
  pub found_in : i < n → get_or seen i false ≡ false → found < n
  found_in l new = let z : taken < n = room n order seen taken i g.held l new in omega (arith, g.few)

  -- all points have their groups
  pub gather_ends : n ≤ i → Components r n order ends found
  unfolding groups
  gather_ends h =
      let e : i ≡ n = omega (arith, g.upto) in
      let count : taken ≤ n = omega (arith, g.held.counts, count_le (λ k. get_or seen k false) n) in
      let full : taken ≡ n = g.held.counts ∙ count_full (λ k. get_or seen k false) n (λ k l. g.lowest k (let z : k < n = l in omega arith)) in
      let every : (j : ℕ) → j < n → has j (joined gs) ≡ true = λ j l. sym (has_flag j l) ∙ g.lowest j (let z : j < n = l in omega arith) in
      record {
        are = g.are ∙ ap (groups_below r n) e;
        laid = record {
          few = omega (arith, g.few);
          rising = g.rising;
          upto = λ k l. omega (arith, g.within k l);
          within = λ k l. g.held.within k (let z : k < n = l in omega (arith, full));
          apart = g.apart;
          all = λ j l. ap (λ (x : List (List ℕ)). has j (joined x)) g.are ∙ every j l;
        };
      }
