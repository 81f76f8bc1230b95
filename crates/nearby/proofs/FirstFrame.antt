-- The first point of a group: it is taken, and its frame is the only one. Assumes nothing.
use mathlib.Core.Path.{◌≡◌, sym, ap, ◌∙◌, subst}
use mathlib.Core.Bool.{Bool, true, false}
use mathlib.Core.List.{List, [], ◌∷◌, ◌++◌, append-nil}
use Prim.Native.Nat.{ℕ, suc, ◌+◌, ◌*◌, ◌-◌, ◌≤◌, ◌<◌}
use native.Mathlib.Nat.{suc-mul, mul-le-mul_right}
use native.Mathlib.Omega.{arith}
use lib.Dec.{eqb}
use lib.ListN.{length, get_or, set, take, length-set}
use lib.Seq.{get_or-set_same}
use borrow.Author.Tests.{eqb-true, eqb-false}
use Rattle.lists.specs.Lists.{has}
use Rattle.lists.proofs.Bools.{by_cases}
use Rattle.nearby.specs.Walk.{descending, at, walk}
use Rattle.nearby.specs.Engine.{Taken}
use Rattle.nearby.proofs.Flags.{room, list_more, taken_more, still}
use Rattle.nearby.proofs.Turns.{turn_new}
use Rattle.nearby.proofs.Frames.{stack_of, weight, work, Good}

module _
    (r : ℕ → ℕ → Bool) (n : ℕ) (order : List ℕ) (seen : List Bool) (node left : List ℕ) (done start : ℕ) (held : Taken n order seen done)
    (node_room : n ≤ length node) (left_room : n ≤ length left) (inside : start < n) (new : get_or seen start false ≡ false)
    (lowest : (k : ℕ) → k < start → get_or seen k false ≡ true) where
  first_room : done < n
  first_room = room n order seen done start held inside new

  first_node : get_or (set node 0 start) 0 0 ≡ start
  first_node = get_or-set_same node 0 start 0 (omega arith)

  first_left : get_or (set left 0 n) 0 0 ≡ n
  first_left = get_or-set_same left 0 n 0 (omega arith)

  first_stack : stack_of r (set node 0 start) (set left 0 n) 1 ≡ descending (r start) n ++ []
  unfolding stack_of
  first_stack = rw (first_node, first_left)

  first_work : work n (set left 0 n) (done + 1) 1 ≤ n * (n + 1)
  unfolding work weight
  first_work =
      let a = first_left in
      let e : n - done ≡ suc (n - (done + 1)) = omega (arith, first_room) in
      let b : (n - done) * (n + 1) ≡ (n - (done + 1)) * (n + 1) + (n + 1) = ap (λ (k : ℕ). k * (n + 1)) e ∙ suc-mul (n - (done + 1)) (n + 1) in
      let d : (n - done) * (n + 1) ≤ n * (n + 1) = mul-le-mul_right (n + 1) (omega arith) in
      omega arith

  only : (xs : List ℕ) (m d : ℕ) → d < 1 → get_or xs 0 0 ≤ m → get_or xs d 0 ≤ m
  only xs m d e h = let z : 0 ≡ d = omega arith in subst (λ (k : ℕ). get_or xs k 0 ≤ m) z h

  -- the points up to it are all taken then
  lowest_more : (k : ℕ) → k ≤ start → get_or (set seen start true) k false ≡ true
  lowest_more k h =
      by_cases (eqb k start)
      (λ t. ap (λ (x : ℕ). get_or (set seen start true) x false) (eqb-true k start t) ∙ get_or-set_same seen start true false (omega (arith, held.seen_room)))
      (λ t. still n order seen done start held inside new k (lowest k (let ne : k ≡ start → ⊥ = eqb-false k start t in let z : k ≤ start = h in omega arith)))

  pub started : Good r n (take done order) start (set order done start) (set seen start true) (set node 0 start) (set left 0 n) (done + 1) 1
  started = record {
    held = taken_more n order seen done start held inside new;
    node_room = omega (arith, length-set node 0 start);
    left_room = omega (arith, length-set left 0 n);
    depth_le = omega arith;
    nodes = λ d e. omega (arith, only (set node 0 start) start d e (omega (arith, first_node)));
    lefts = λ d e. only (set left 0 n) n d e (omega (arith, first_left));
    lowest = lowest_more;
    group = start ∷ [];
    list = list_more n order seen done start held inside new;
    fuel = n * (n + 1);
    enough = first_work;
    same =
        turn_new r n (take done order) (n * (n + 1)) start [] [] (ap (has start) (append-nil (take done order)) ∙ sym (held.flags start inside) ∙ new)
        ∙ ap (λ (s : List ℕ). walk r n (take done order) (n * (n + 1)) (at s (start ∷ []))) (sym first_stack);
  }
