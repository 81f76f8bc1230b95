-- The turns at the top frame, as the code counts the frames: the top one stands at depth - 1. Assumes nothing.
use mathlib.Core.Path.{◌≡◌, sym, subst}
use mathlib.Core.Bool.{Bool, true, false}
use mathlib.Core.List.{List}
use Prim.Native.Nat.{ℕ, suc, ◌+◌, ◌-◌, ◌≤◌, ◌<◌}
use native.Mathlib.Omega.{arith}
use native.Mathlib.Numerals.{add-one}
use lib.Dec.{ltb}
use lib.ListN.{get_or, set}
use borrow.Author.Tests.{ltb-true, ltb-false}
use Rattle.lists.proofs.Bools.{by_cases}
use Rattle.nearby.specs.Engine.{Next}
use Rattle.nearby.proofs.Frames.{work, Good, taken_le}
use Rattle.nearby.proofs.TopFrame.{Passed, pop, pop_less, j_small, taken_room, push, push_less}

module _
    {r : ℕ → ℕ → Bool} {n : ℕ} {before : List ℕ} {start : ℕ} {order : List ℕ} {seen : List Bool} {node left : List ℕ} {taken depth : ℕ}
    (g : Good r n before start order seen node left taken depth) (some : 0 < depth) where
  deep : depth ≡ suc (depth - 1)
  deep = omega arith

  good' : Good r n before start order seen node left taken (suc (depth - 1))
  good' = subst (λ (d : ℕ). Good r n before start order seen node left taken d) deep g

  pub depth_in : depth ≤ n
  depth_in = omega (arith, g.depth_le, taken_le g)

  pub node_in : get_or node (depth - 1) 0 < n
  node_in = g.nodes (depth - 1) (omega arith)

  pub left_in : get_or left (depth - 1) 0 ≤ n
  left_in = g.lefts (depth - 1) (omega arith)

  -- what a search from `start` up has passed, with those below it, which are all old
  passed :
      (p : ℕ → Bool) (next m : ℕ)
      → Next p start (get_or left (depth - 1) 0) next
      → next ≤ m
      → ((k : ℕ) → p k ≡ false → r (get_or node (depth - 1) 0) k ≡ true → get_or seen k false ≡ true)
      → Passed good' m
  passed p next m q h f k a b e =
      by_cases (ltb k start)
      (λ t. g.lowest k (let z : k < start = ltb-true k start t in omega arith))
      (λ t. f k (q.after k (ltb-false k start t) (let z : m ≤ k = a in omega arith) b) e)

  module _
      (p : ℕ → Bool) (next : ℕ) (q : Next p start (get_or left (depth - 1) 0) next)
      (f : (k : ℕ) → p k ≡ false → r (get_or node (depth - 1) 0) k ≡ true → get_or seen k false ≡ true) where
    pub frame_goes : next ≡ 0 → Good r n before start order seen node left taken (depth - 1)
    frame_goes e = pop good' (passed p next 0 q (omega arith) f)

    pub frame_goes_less : work n left taken (depth - 1) < work n left taken depth
    frame_goes_less = subst (λ (d : ℕ). work n left taken (depth - 1) < work n left taken d) (sym deep) (pop_less good')

    module _ (found : next ≡ 0 → ⊥) (close : r (get_or node (depth - 1) 0) (next - 1) ≡ true) (new : get_or seen (next - 1) false ≡ false) where
      here : (start < next) × (next ≤ get_or left (depth - 1) 0) × (p (next - 1) ≡ true)
      here = q.here (omega (arith, found))

      under : next - 1 < get_or left (depth - 1) 0
      under = omega (arith, here.1, found)

      rest_passed : Passed good' (suc (next - 1))
      rest_passed = passed p next (suc (next - 1)) q (omega arith) f

      pub next_small : next - 1 < n
      next_small = j_small good' (next - 1) under close new rest_passed

      pub room_left : taken < n
      room_left = taken_room good' (next - 1) under close new rest_passed

      pub depth_under : depth < n
      depth_under = omega (arith, room_left, g.depth_le)

      -- the lists with the new frame at place d, above the one that it came from
      abbrev node_with : ℕ → List ℕ
      node_with d = set node d (next - 1)

      abbrev left_with : ℕ → List ℕ
      left_with d = set (set left (depth - 1) (next - 1)) d n

      abbrev Comes : ℕ → ℕ → Type 0
      Comes d d' = Good r n before start (set order taken (next - 1)) (set seen (next - 1) true) (node_with d) (left_with d) (taken + 1) d'

      pub frame_comes : Comes depth (depth + 1)
      frame_comes =
          subst (λ (d : ℕ). Comes d (d + 1)) (sym deep)
          (subst (λ (d : ℕ). Comes (suc (depth - 1)) d) (sym (add-one (suc (depth - 1)))) (push good' (next - 1) under close new rest_passed))

      pub frame_comes_less : work n (left_with depth) (taken + 1) (depth + 1) < work n left taken depth
      frame_comes_less =
          subst (λ (d : ℕ). work n (left_with d) (taken + 1) (d + 1) < work n left taken d) (sym deep)
          (subst (λ (d : ℕ). work n (left_with (suc (depth - 1))) (taken + 1) d < work n left taken (suc (depth - 1))) (sym (add-one (suc (depth - 1))))
          (push_less good' (next - 1) under close new rest_passed))
