-- Point i begins a group of its own, which is walked: it is laid out behind the others, which stay. Assumes nothing.
use mathlib.Core.Path.{◌≡◌, refl, sym, ap, ◌∙◌}
use mathlib.Core.Bool.{Bool, true, false, ◌||◌, or-false}
use mathlib.Core.List.{List, [], ◌∷◌, ◌++◌}
use Prim.Native.Nat.{ℕ, zero, suc, ◌+◌, ◌≤◌, ◌<◌, min}
use native.Mathlib.Omega.{arith}
use native.Mathlib.Numerals.{add-one}
use lib.Dec.{eqb, ltb}
use lib.ListN.{length, get_or, set, take, drop, length-take, drop_of_length-le}
use lib.Seq.{slice, length-take-le, take_at, drop_at, take-take, get_or-set_same, get_or-set_other}
use borrow.Author.Tests.{eqb-true, eqb-false, ltb-true, ltb-false}
use Rattle.lists.specs.Lists.{has, joined}
use Rattle.lists.proofs.Bools.{by_cases, true_false}
use Rattle.lists.proofs.Parts.{some_append, joined_snoc}
use Rattle.nearby.specs.Walk.{group_from, groups_below}
use Rattle.nearby.specs.Engine.{Walked, start_of, group_at, laid_out}
use Rattle.nearby.proofs.Counting.{count_le}
use Rattle.nearby.proofs.Laws.{group_apart}
use Rattle.nearby.proofs.Laying.{new_group, laid_more, laid_same}
use Rattle.nearby.proofs.Gathering.{Gathering, has_flag}

module _
    {r : ℕ → ℕ → Bool} {n : ℕ} {order ends : List ℕ} {seen : List Bool} {taken found i : ℕ}
    (g : Gathering r n order ends seen taken found i)
    (l : i < n) (new : get_or seen i false ≡ false) (space : found < length ends)
    {order' : List ℕ} {seen' : List Bool} {end : ℕ} (v : Walked r n order i taken order' seen' end) where
  abbrev gs : List (List ℕ)
  gs = groups_below r n i

  abbrev ends' : List ℕ
  ends' = set ends found end

  abbrev group : List ℕ
  group = group_from r n (joined gs) i

  taken_le : taken ≤ length order
  taken_le = omega (arith, g.held.counts, count_le (λ k. get_or seen k false) n, g.held.order_room)

  list_is : take end order' ≡ take taken order ++ group
  list_is = v.list ∙ ap (λ (b : List ℕ). take taken order ++ group_from r n b i) g.list

  group_is : slice taken end order' ≡ group
  group_is = ap (drop taken) list_is ∙ drop_at (take taken order) group taken (length-take-le taken order taken_le)

  all_is : take end order' ≡ joined (gs ++ (group ∷ []))
  all_is = list_is ∙ ap (λ (b : List ℕ). b ++ group) g.list ∙ sym (joined_snoc gs group)

  more_groups : groups_below r n (i + 1) ≡ gs ++ (group ∷ [])
  more_groups = new_group r n i (sym (has_flag g i l) ∙ new)

  flag_more : (k : ℕ) → k < n → get_or seen' k false ≡ (has k (joined gs) || has k group)
  flag_more k h = v.taken.flags k h ∙ ap (has k) (all_is ∙ joined_snoc gs group) ∙ some_append (eqb k) (joined gs) group

  -- the group is not empty: its first point is i
  further : taken < end
  further =
      by_cases (ltb taken end)
      (λ t. ltb-true taken end t)
      (λ t.
      let z : slice taken end order' ≡ [] = nothing taken end order' (ltb-false taken end t) in
      let e : true ≡ has i (joined gs) =
      sym (v.lowest i (omega arith)) ∙ flag_more i l ∙ ap (λ (q : List ℕ). has i (joined gs) || has i q) (sym group_is ∙ z) ∙ or-false (has i (joined gs)) in
      true_false (e ∙ sym (has_flag g i l) ∙ new))
    where
      nothing : (f t : ℕ) (q : List ℕ) → t ≤ f → drop f (take t q) ≡ []
      nothing f t q h = drop_of_length-le (take t q) {i = f} (let e : length (take t q) ≡ min t (length q) = length-take t q in omega arith)

  -- what was laid out stays
  front_same : (b : ℕ) → b ≤ taken → take b order' ≡ take b order
  front_same b h =
      sym (take-take b end order' (omega (arith, further)))
      ∙ ap (take b) list_is
      ∙ sym (take-take b taken (take taken order ++ group) h)
      ∙ ap (take b) (take_at (take taken order) group taken (length-take-le taken order taken_le))
      ∙ take-take b taken order h

  end_other : (k : ℕ) → k < found → get_or ends' k 0 ≡ get_or ends k 0
  end_other k h = get_or-set_other ends found k end 0 (λ e. let z : k < found = h in omega arith)

  start_other : (k : ℕ) → k ≤ found → start_of ends' k ≡ start_of ends k
  start_other zero h = refl
  start_other (suc k) h = end_other k h

  group_same : (k : ℕ) → k < found → group_at order' ends' k ≡ group_at order ends k
  group_same k h =
      ap (λ (x : ℕ). slice x (get_or ends' k 0) order') (start_other k (let z : k < found = h in omega arith))
      ∙ ap (λ (x : ℕ). slice (start_of ends k) x order') (end_other k h)
      ∙ ap (drop (start_of ends k)) (front_same (get_or ends k 0) (g.within k h))

  laid_kept : (k : ℕ) → k ≤ found → laid_out order' ends' k ≡ laid_out order ends k
  laid_kept k h = laid_same order order' ends ends' k (λ j z. group_same j (let y : j < k = z in omega arith))

  end_new : get_or ends' found 0 ≡ end
  end_new = get_or-set_same ends found end 0 space

  group_new : group_at order' ends' found ≡ group
  group_new =
      ap (λ (x : ℕ). slice x (get_or ends' found 0) order') (start_other found (omega arith) ∙ g.last)
      ∙ ap (λ (x : ℕ). slice taken x order') end_new
      ∙ group_is

  apart_more : (k j : ℕ) → k < found + 1 → has j (joined (laid_out order' ends' k)) ≡ true → has j (group_at order' ends' k) ≡ false
  apart_more k j h e =
      by_cases (eqb k found)
      (λ t.
      let q : k ≡ found = eqb-true k found t in
      ap (λ (x : ℕ). has j (group_at order' ends' x)) q
      ∙ ap (has j) group_new
      ∙ group_apart r n (joined gs) j
      (sym (ap (λ (x : List (List ℕ)). has j (joined x)) (ap (laid_out order' ends') q ∙ laid_kept found (omega arith) ∙ g.are)) ∙ e)
      i)
      (λ t.
      let ne : k ≡ found → ⊥ = eqb-false k found t in
      let m : k < found = (let z : k < found + 1 = h in omega arith) in
      ap (has j) (group_same k m) ∙ g.apart k j m (sym (ap (λ (x : List (List ℕ)). has j (joined x)) (laid_kept k (omega arith))) ∙ e))

  rising_more : (k : ℕ) → k < found + 1 → start_of ends' k < get_or ends' k 0
  rising_more k h =
      by_cases (eqb k found)
      (λ t.
      let q : k ≡ found = eqb-true k found t in
      let a : start_of ends' k ≡ taken = ap (start_of ends') q ∙ start_other found (omega arith) ∙ g.last in
      let b : get_or ends' k 0 ≡ end = ap (λ (x : ℕ). get_or ends' x 0) q ∙ end_new in
      omega (arith, further, a, b))
      (λ t.
      let ne : k ≡ found → ⊥ = eqb-false k found t in
      let m : k < found = (let z : k < found + 1 = h in omega arith) in
      omega (arith, start_other k (omega arith), end_other k m, g.rising k m))

  within_more : (k : ℕ) → k < found + 1 → get_or ends' k 0 ≤ end
  within_more k h =
      by_cases (eqb k found)
      (λ t.
      let q : k ≡ found = eqb-true k found t in
      let b : get_or ends' k 0 ≡ end = ap (λ (x : ℕ). get_or ends' x 0) q ∙ end_new in
      omega arith)
      (λ t.
      let ne : k ≡ found → ⊥ = eqb-false k found t in
      let m : k < found = (let z : k < found + 1 = h in omega arith) in
      omega (arith, further, end_other k m, g.within k m))

  pub gather_new : Gathering r n order' (set ends found end) seen' end (found + 1) (i + 1)
  gather_new = record {
    upto = omega arith;
    held = v.taken;
    lowest = λ k h. v.lowest k (let z : k < i + 1 = h in omega arith);
    list = all_is ∙ ap joined (sym more_groups);
    are =
        laid_more order' ends' found
        ∙ ap (λ (x : List (List ℕ)). x ++ (group_at order' ends' found ∷ [])) (laid_kept found (omega arith) ∙ g.are)
        ∙ ap (λ (x : List ℕ). gs ++ (x ∷ [])) group_new
        ∙ sym more_groups;
    last = ap (start_of ends') (add-one found) ∙ end_new;
    few = omega (arith, further, g.few);
    rising = rising_more;
    within = within_more;
    apart = apart_more;
  }
