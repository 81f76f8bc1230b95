-- The frames of the walk stand for the document's stack: frame d for the near points of node d below left d, the highest first, and
-- the deepest frame on top. What is left to do (`work`) is never more than the turns that the document's walk still has, so
-- its stack is empty when the frames are used up. Assumes nothing.
use mathlib.Core.Path.{◌≡◌, refl, sym, ap, ◌∙◌}
use mathlib.Core.Logic.{◌≢◌}
use mathlib.Core.Bool.{Bool, true, false}
use mathlib.Core.List.{List, [], ◌∷◌, ◌++◌, map}
use Prim.Native.Nat.{ℕ, zero, suc, ◌+◌, ◌*◌, ◌-◌, ◌≤◌, ◌<◌}
use native.Mathlib.Omega.{arith}
use lib.ListN.{length, get_or, set, take}
use lib.Seq.{get_or-set_other}
use Rattle.lists.specs.Lists.{has}
use Rattle.nearby.specs.Walk.{descending, Walk, at, walk, often, group_from}
use Rattle.nearby.specs.Engine.{Taken}
use Rattle.nearby.specs.declared.Frame.{Frame}
use Rattle.nearby.proofs.Counting.{count_le}
use Rattle.nearby.proofs.Turns.{walk_ends}

abbrev pub nodes_of : List Frame → List ℕ
nodes_of fs = map (λ (f : Frame). f.node) fs

abbrev pub lefts_of : List Frame → List ℕ
lefts_of fs = map (λ (f : Frame). f.left) fs

-- the stack that the frames stand for, and how many points they still hold, each frame counting for one more
unfoldable pub stack_of : (ℕ → ℕ → Bool) → List ℕ → List ℕ → ℕ → List ℕ
unfolding descending
stack_of r node left zero = []
stack_of r node left (suc d) = descending (r (get_or node d 0)) (get_or left d 0) ++ stack_of r node left d

unfoldable pub weight : List ℕ → ℕ → ℕ
weight left zero = 0
weight left (suc d) = weight left d + (get_or left d 0 + 1)

-- what is left to do, with n points of which `taken` are taken
unfoldable pub work : ℕ → List ℕ → ℕ → ℕ → ℕ
unfolding weight
work n left taken depth = weight left depth + (n - taken) * (n + 1)

-- a store at frame k leaves those before it
pub other : (d k : ℕ) → d < k → d ≢ k
other d k h = λ e. omega arith

pub weight_set : (left : List ℕ) (k v d : ℕ) → d ≤ k → weight (set left k v) d ≡ weight left d
unfolding weight
weight_set left k v zero h = refl
weight_set left k v (suc d) h = rw (weight_set left k v d (omega arith), get_or-set_other left k d v 0 (other d k h))

pub stack_left : (r : ℕ → ℕ → Bool) (node left : List ℕ) (k v d : ℕ) → d ≤ k → stack_of r node (set left k v) d ≡ stack_of r node left d
unfolding stack_of
stack_left r node left k v zero h = refl
stack_left r node left k v (suc d) h = rw (stack_left r node left k v d (omega arith), get_or-set_other left k d v 0 (other d k h))

pub stack_node : (r : ℕ → ℕ → Bool) (node left : List ℕ) (k v d : ℕ) → d ≤ k → stack_of r (set node k v) left d ≡ stack_of r node left d
unfolding stack_of
stack_node r node left k v zero h = refl
stack_node r node left k v (suc d) h = rw (stack_node r node left k v d (omega arith), get_or-set_other node k d v 0 (other d k h))

-- the walk under way: `before` were taken by earlier groups, and this one is walked from `start`
pub record Good
    (r : ℕ → ℕ → Bool) (n : ℕ) (before : List ℕ) (start : ℕ)
    (order : List ℕ) (seen : List Bool) (node left : List ℕ) (taken depth : ℕ) : Type 0 where
  pub held : Taken n order seen taken
  pub node_room : n ≤ length node
  pub left_room : n ≤ length left
  pub depth_le : depth ≤ taken
  pub nodes : (d : ℕ) → d < depth → get_or node d 0 < n
  pub lefts : (d : ℕ) → d < depth → get_or left d 0 ≤ n
  pub lowest : (k : ℕ) → k ≤ start → get_or seen k false ≡ true
  pub group : List ℕ
  pub list : take taken order ≡ before ++ group
  pub fuel : ℕ
  pub enough : work n left taken depth ≤ fuel
  pub same : walk r n before (often n) (at (start ∷ []) []) ≡ walk r n before fuel (at (stack_of r node left depth) group)

module _ {r : ℕ → ℕ → Bool} {n : ℕ} {before : List ℕ} {start : ℕ} {order : List ℕ} {seen : List Bool} {node left : List ℕ} {taken : ℕ} where
  pub taken_le : {depth : ℕ} → Good r n before start order seen node left taken depth → taken ≤ n
  taken_le g = omega (arith, g.held.counts, count_le (λ k. get_or seen k false) n)

  -- a flag says whether the walk has the point
  pub flag_has :
      {depth : ℕ} (g : Good r n before start order seen node left taken depth) (k : ℕ) → k < n
      → get_or seen k false ≡ has k (before ++ g.group)
  flag_has g k h = g.held.flags k h ∙ ap (has k) g.list

  pub ended :
      {depth : ℕ} (g : Good r n before start order seen node left taken depth) → depth ≡ 0
      → take taken order ≡ before ++ group_from r n before start
  unfolding group_from stack_of
  ended {depth} g e =
      g.list
      ∙ ap (λ (x : Walk). before ++ x.group)
      (sym (g.same ∙ ap (λ (d : ℕ). walk r n before g.fuel (at (stack_of r node left d) g.group)) e ∙ walk_ends r n before g.fuel g.group))
