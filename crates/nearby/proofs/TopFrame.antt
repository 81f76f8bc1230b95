-- A turn at the top frame: none of its points is left, and it goes; or the highest that is near and new is taken, and its frame goes on
-- top. Either way less is left to do. Assumes nothing.
use mathlib.Core.Path.{◌≡◌, refl, sym, ap, ◌∙◌, subst}
use mathlib.Core.Bool.{Bool, true, false}
use mathlib.Core.List.{List, [], ◌∷◌, ◌++◌, append_assoc}
use Prim.Native.Nat.{ℕ, suc, ◌+◌, ◌*◌, ◌-◌, ◌≤◌, ◌<◌}
use native.Mathlib.Nat.{suc-mul}
use native.Mathlib.Omega.{arith}
use lib.Dec.{eqb}
use lib.ListN.{length, get_or, set, length-set}
use lib.Seq.{get_or-set_same, get_or-set_other}
use borrow.Author.Tests.{eqb-true, eqb-false}
use Rattle.lists.proofs.Bools.{by_cases}
use Rattle.nearby.specs.Walk.{descending, at, walk}
use Rattle.nearby.proofs.Flags.{room, list_more, taken_more, still}
use Rattle.nearby.proofs.Turns.{turn_new, keep, none, Past, past}
use Rattle.nearby.proofs.Frames.{stack_of, weight, work, other, weight_set, stack_left, stack_node, Good, flag_has}

module _
    {r : ℕ → ℕ → Bool} {n : ℕ} {before : List ℕ} {start : ℕ} {order : List ℕ} {seen : List Bool} {node left : List ℕ} {taken top : ℕ}
    (g : Good r n before start order seen node left taken (suc top)) where
  abbrev i : ℕ
  i = get_or node top 0

  abbrev l : ℕ
  l = get_or left top 0

  abbrev rest : List ℕ
  rest = stack_of r node left top

  top_frame : stack_of r node left (suc top) ≡ descending (r i) l ++ rest
  unfolding stack_of
  top_frame = refl

  l_small : l ≤ n
  l_small = g.lefts top (omega arith)

  -- the frame's points from m up are not near, or old
  abbrev pub Passed : ℕ → Type 0
  Passed m = (k : ℕ) → m ≤ k → k < l → r i k ≡ true → get_or seen k false ≡ true

  -- there are turns enough for all of them
  turns : l ≤ g.fuel
  unfolding work weight
  turns = omega (arith, g.enough)

  run : (m : ℕ) → m ≤ l → Passed m → Past r n before i l m rest g.group g.fuel
  run m h o =
      past r n before i m rest g.group l g.fuel h (let z : l ≤ g.fuel = turns in omega arith)
      (λ k a b e. sym (flag_has g k (let y : k < l = b in let x : l ≤ n = l_small in omega arith)) ∙ o k a b e)

  -- none of them is left: the frame goes
  pub pop : Passed 0 → Good r n before start order seen node left taken top
  unfolding work weight stack_of
  pop o =
      let p = run 0 (omega arith) o in
      record {
        held = g.held;
        node_room = g.node_room;
        left_room = g.left_room;
        depth_le = omega (arith, g.depth_le);
        nodes = λ d h. g.nodes d (let z : d < top = h in omega arith);
        lefts = λ d h. g.lefts d (let z : d < top = h in omega arith);
        lowest = g.lowest;
        group = g.group;
        list = g.list;
        fuel = p.fuel;
        enough = omega (arith, g.enough, p.spent);
        same = g.same ∙ p.same ∙ ap (λ (d : List ℕ). walk r n before p.fuel (at (d ++ rest) g.group)) (none (r i));
      }

  pub pop_less : work n left taken top < work n left taken (suc top)
  unfolding work weight
  pop_less = omega arith

  -- the highest that is near and new is j: it is taken, and its frame goes on top
  module _ (j : ℕ) (below : j < l) (close : r i j ≡ true) (new : get_or seen j false ≡ false) (o : Passed (suc j)) where
    pub j_small : j < n
    j_small = omega (arith, l_small)

    pub taken_room : taken < n
    taken_room = room n order seen taken j g.held j_small new

    abbrev left₁ : List ℕ
    left₁ = set left top j

    abbrev node' : List ℕ
    node' = set node (suc top) j

    abbrev left' : List ℕ
    left' = set left₁ (suc top) n

    in_left : top < length left
    in_left = omega (arith, g.left_room, g.depth_le, taken_room)

    in_left' : suc top < length left₁
    in_left' = omega (arith, g.left_room, g.depth_le, taken_room, length-set left top j)

    in_node' : suc top < length node
    in_node' = omega (arith, g.node_room, g.depth_le, taken_room)

    new_node : get_or node' (suc top) 0 ≡ j
    new_node = get_or-set_same node (suc top) j 0 in_node'

    new_left : get_or left' (suc top) 0 ≡ n
    new_left = get_or-set_same left₁ (suc top) n 0 in_left'

    old_left : get_or left' top 0 ≡ j
    old_left = get_or-set_other left₁ (suc top) top n 0 (other top (suc top) (omega arith)) ∙ get_or-set_same left top j 0 in_left

    old_node : get_or node' top 0 ≡ i
    old_node = get_or-set_other node (suc top) top j 0 (other top (suc top) (omega arith))

    same_weight : weight left' top ≡ weight left top
    same_weight = weight_set left₁ (suc top) n top (omega arith) ∙ weight_set left top j top (omega arith)

    same_rest : stack_of r node' left' top ≡ rest
    same_rest =
        stack_node r node left' (suc top) j top (omega arith)
        ∙ stack_left r node left₁ (suc top) n top (omega arith)
        ∙ stack_left r node left top j top (omega arith)

    stack_push : stack_of r node' left' (suc (suc top)) ≡ descending (r j) n ++ (descending (r i) j ++ rest)
    unfolding stack_of
    stack_push = rw (new_node, new_left, old_node, old_left, same_rest)

    one_less : (n - taken) * (n + 1) ≡ (n - (taken + 1)) * (n + 1) + (n + 1)
    one_less =
        let e : n - taken ≡ suc (n - (taken + 1)) = omega (arith, taken_room) in
        ap (λ (k : ℕ). k * (n + 1)) e ∙ suc-mul (n - (taken + 1)) (n + 1)

    work_push : work n left' (taken + 1) (suc (suc top)) + (l - j) ≡ work n left taken (suc top)
    unfolding work weight
    work_push =
        let a = same_weight in
        let b = new_left in
        let c = old_left in
        let d = one_less in
        omega arith

    frames :
        (P : ℕ → Type 0) → P j → ((d : ℕ) → d < suc top → P (get_or node d 0))
        → (d : ℕ) → d < suc (suc top) → P (get_or node' d 0)
    frames P p h d e =
        by_cases (eqb d (suc top))
        (λ t. subst P (sym (ap (λ (x : ℕ). get_or node' x 0) (eqb-true d (suc top) t) ∙ new_node)) p)
        (λ t.
        let ne : d ≡ suc top → ⊥ = eqb-false d (suc top) t in
        subst P (sym (get_or-set_other node (suc top) d j 0 ne)) (h d (let z : d < suc (suc top) = e in omega arith)))

    lefts_push : (d : ℕ) → d < suc (suc top) → get_or left' d 0 ≤ n
    lefts_push d e =
        by_cases (eqb d (suc top))
        (λ t. let z : get_or left' d 0 ≡ n = ap (λ (x : ℕ). get_or left' x 0) (eqb-true d (suc top) t) ∙ new_left in omega arith)
        (λ t.
        let ne : d ≡ suc top → ⊥ = eqb-false d (suc top) t in
        by_cases (eqb d top)
        (λ u. let z : get_or left' d 0 ≡ j = ap (λ (x : ℕ). get_or left' x 0) (eqb-true d top u) ∙ old_left in let y = j_small in omega arith)
        (λ u.
        let nf : d ≡ top → ⊥ = eqb-false d top u in
        let z : get_or left' d 0 ≡ get_or left d 0 = get_or-set_other left₁ (suc top) d n 0 ne ∙ get_or-set_other left top d j 0 nf in
        let y : get_or left d 0 ≤ n = g.lefts d (let x : d < suc (suc top) = e in omega arith) in
        omega arith))

    -- the document's walk pops j, finds it new, and pushes its near points
    taken_up :
        (f : ℕ)
        → walk r n before (suc f) (at (descending (r i) (suc j) ++ rest) g.group)
        ≡ walk r n before f (at (stack_of r node' left' (suc (suc top))) (g.group ++ (j ∷ [])))
    taken_up f =
        ap (λ (d : List ℕ). walk r n before (suc f) (at (d ++ rest) g.group)) (keep (r i) j close)
        ∙ turn_new r n before f j (descending (r i) j ++ rest) g.group (sym (flag_has g j j_small) ∙ new)
        ∙ ap (λ (s : List ℕ). walk r n before f (at s (g.group ++ (j ∷ [])))) (sym stack_push)

    pub push : Good r n before start (set order taken j) (set seen j true) node' left' (taken + 1) (suc (suc top))
    push =
        let p = run (suc j) below o in
        let some : 0 < p.fuel = omega (arith, p.spent, g.enough, work_push) in
        let is : p.fuel ≡ suc (p.fuel - 1) = omega arith in
        record {
          held = taken_more n order seen taken j g.held j_small new;
          node_room = omega (arith, g.node_room, length-set node (suc top) j);
          left_room = omega (arith, g.left_room, length-set left top j, length-set left₁ (suc top) n);
          depth_le = omega (arith, g.depth_le);
          nodes = frames (λ x. x < n) j_small g.nodes;
          lefts = lefts_push;
          lowest = λ k h. still n order seen taken j g.held j_small new k (g.lowest k h);
          group = g.group ++ (j ∷ []);
          list =
              list_more n order seen taken j g.held j_small new
              ∙ ap (λ (x : List ℕ). x ++ (j ∷ [])) g.list
              ∙ append_assoc before g.group (j ∷ []);
          fuel = p.fuel - 1;
          enough = omega (arith, p.spent, g.enough, work_push);
          same =
              g.same
              ∙ ap (λ (s : List ℕ). walk r n before g.fuel (at s g.group)) top_frame
              ∙ p.same
              ∙ ap (λ (f : ℕ). walk r n before f (at (descending (r i) (suc j) ++ rest) g.group)) is
              ∙ taken_up (p.fuel - 1);
        }

    pub push_less : work n left' (taken + 1) (suc (suc top)) < work n left taken (suc top)
    push_less = omega (arith, work_push)
