-- A wire step by step: while the edge of its place is left it goes on, with one edge fewer left; and how long it and its row are.
-- Assumes nothing.
use mathlib.Core.Path.{◌≡◌, refl, sym, ap, ◌∙◌, subst}
use mathlib.Core.Bool.{Bool, true, false}
use mathlib.Core.List.{List, [], ◌∷◌, ◌++◌}
use Prim.Native.Nat.{ℕ, zero, suc, ◌≤◌, ◌<◌}
use native.Mathlib.Omega.{arith}
use lib.Dec.{eqb}
use lib.ListN.{length, get_or, length-set}
use lib.Seq.{get_or-set_same, get_or-set_other}
use borrow.Author.Tests.{eqb-true, eqb-false, ne_eqb}
use Rattle.lists.specs.Lists.{bump}
use Rattle.lists.specs.Numbers.{count_below}
use Rattle.lists.proofs.Bools.{by_cases, true_false}
use Rattle.mesh.specs.Limits.{corner_limit}
use Rattle.tracing.specs.Tables.{nobody}
use Rattle.trailing.specs.Trailing.{is_left, used, left_count, Wire, longer, walk, wire_from, new_wire, wires_by}

-- ---- what is left

pub used_other : (left : List ℕ) (u k : ℕ) → (k ≡ u → ⊥) → is_left (used left u) k ≡ is_left left k
used_other left u k ne = ap (λ (x : ℕ). eqb x k) (get_or-set_other left u k nobody 0 ne)

pub used_self : (left : List ℕ) (u : ℕ) → length left ≤ corner_limit → u < length left → is_left (used left u) u ≡ false
used_self left u few h =
    ap (λ (x : ℕ). eqb x u) (get_or-set_same left u nobody 0 h) ∙ ne_eqb nobody u (λ e. omega arith)

-- no edge comes back
pub used_fewer : (left : List ℕ) (u k : ℕ) → length left ≤ corner_limit → u < length left → is_left (used left u) k ≡ true → is_left left k ≡ true
used_fewer left u k few h q =
    by_cases (eqb k u)
    (λ e.
    let z : k ≡ u = eqb-true k u e in
    true_false (sym q ∙ ap (is_left (used left u)) z ∙ used_self left u few h))
    (λ e. sym (used_other left u k (eqb-false k u e)) ∙ q)

bump_le : (b : Bool) (n : ℕ) → bump b n ≤ suc n
bump_le true n = omega arith
bump_le false n = omega arith

count_most : (p : ℕ → Bool) (n : ℕ) → count_below p n ≤ n
unfolding count_below
count_most p zero = omega arith
count_most p (suc n) = let a : count_below p n ≤ n = count_most p n in let b : _ = bump_le (p n) (count_below p n) in omega arith

count_agree : (p q : ℕ → Bool) (n : ℕ) → ((k : ℕ) → k < n → p k ≡ q k) → count_below p n ≡ count_below q n
unfolding count_below
count_agree p q zero h = refl
count_agree p q (suc n) h = (λ i. bump (h n (omega arith) i) (count_agree p q n (λ k l. h k (omega arith)) i))

-- one fewer passes
count_but : (p q : ℕ → Bool) (u n : ℕ) → u < n → p u ≡ true → q u ≡ false → ((k : ℕ) → (k ≡ u → ⊥) → p k ≡ q k) → count_below p n ≡ suc (count_below q n)
unfolding count_below
count_but p q u zero h a b c = absurd (omega arith)
count_but p q u (suc n) h a b c =
    by_cases (eqb n u)
    (λ e.
    let z : n ≡ u = eqb-true n u e in
    let x : p n ≡ true = ap p z ∙ a in
    let y : q n ≡ false = ap q z ∙ b in
    rw (x, y) (ap suc (count_agree p q n (λ k l. c k (omega arith)))))
    (λ e.
    let z : n ≡ u → ⊥ = eqb-false n u e in
    ap (λ (t : Bool). bump t (count_below p n)) (c n z)
    ∙ ap (bump (q n)) (count_but p q u n (omega arith) a b c)
    ∙ out (q n) (count_below q n))
  where
    out : (t : Bool) (m : ℕ) → bump t (suc m) ≡ suc (bump t m)
    out true m = refl
    out false m = refl

module _ (left : List ℕ) (u : ℕ) (few : length left ≤ corner_limit) (h : u < length left) (is : is_left left u ≡ true) where
  pub left_fewer : left_count left ≡ suc (left_count (used left u))
  unfolding left_count
  left_fewer =
      count_but (is_left left) (is_left (used left u)) u (length left) h is (used_self left u few h) (λ k ne. sym (used_other left u k ne))
      ∙ ap (λ (n : ℕ). suc (count_below (is_left (used left u)) n)) (sym (length-set left u nobody))

-- ---- a wire

module _ (starts follows : List ℕ) where
  walk_none : (u : ℕ) (left : List ℕ) → walk starts follows zero u left ≡ ([], left)
  unfolding walk
  walk_none u left = refl

  pub walk_used :
      (n u : ℕ) (left : List ℕ) → is_left left u ≡ true
      → walk starts follows (suc n) u left ≡ longer (get_or starts u 0) (walk starts follows n (get_or follows u 0) (used left u))
  unfolding walk
  walk_used n u left e = rw (e, walk)

  pub walk_closed : (n u : ℕ) (left : List ℕ) → is_left left u ≡ false → walk starts follows n u left ≡ ([], left)
  unfolding walk
  walk_closed zero u left e = refl
  walk_closed (suc n) u left e = rw (e, walk)

  walk_long : (n u : ℕ) (left : List ℕ) → (length (walk starts follows n u left).0 ≤ n) × (length (walk starts follows n u left).1 ≡ length left)
  walk_long zero u left = rw (walk_none u left) (omega arith, refl)
  walk_long (suc n) u left =
      by_cases (is_left left u)
      (λ e.
      let r : _ = walk_long n (get_or follows u 0) (used left u) in
      rw (walk_used n u left e) (omega (arith, r.0), r.1 ∙ length-set left u nobody))
      (λ e. rw (walk_closed (suc n) u left e) (omega arith, refl))

  -- with steps enough
  pub wire_used :
      (u : ℕ) (left : List ℕ) → length left ≤ corner_limit → u < length left → is_left left u ≡ true
      → wire_from starts follows u left ≡ longer (get_or starts u 0) (wire_from starts follows (get_or follows u 0) (used left u))
  unfolding wire_from
  wire_used u left few h e =
      ap (λ (n : ℕ). walk starts follows n u left) (left_fewer left u few h e) ∙ walk_used (left_count (used left u)) u left e

  pub wire_closed : (u : ℕ) (left : List ℕ) → is_left left u ≡ false → wire_from starts follows u left ≡ ([], left)
  unfolding wire_from
  wire_closed u left e = walk_closed (left_count left) u left e

  pub wire_row : (u : ℕ) (left : List ℕ) → length (wire_from starts follows u left).1 ≡ length left
  unfolding wire_from
  wire_row u left = (walk_long (left_count left) u left).1

  pub wire_short : (u : ℕ) (left : List ℕ) → length (wire_from starts follows u left).0 ≤ length left
  unfolding wire_from left_count
  wire_short u left =
      let a : _ = (walk_long (left_count left) u left).0 in
      let b : count_below (is_left left) (length left) ≤ length left = count_most (is_left left) (length left) in
      omega arith

  -- ---- wires

  pub new_one : (u : ℕ) (left : List ℕ) → is_left left u ≡ true → new_wire starts follows u left ≡ (wire_from starts follows u left).0 ∷ []
  unfolding new_wire
  new_one u left e = rw e

  pub new_none : (u : ℕ) (left : List ℕ) → is_left left u ≡ false → new_wire starts follows u left ≡ []
  unfolding new_wire
  new_none u left e = rw e

  pub wires_none : (left : List ℕ) → wires_by starts follows [] left ≡ []
  unfolding wires_by
  wires_none left = refl

  pub wires_on :
      (u : ℕ) (us left : List ℕ)
      → wires_by starts follows (u ∷ us) left ≡ new_wire starts follows u left ++ wires_by starts follows us (wire_from starts follows u left).1
  unfolding wires_by
  wires_on u us left = refl

  -- ---- no edge comes back, and the first one is used

  pub walk_fewer :
      (n u : ℕ) (left : List ℕ) → length left ≤ corner_limit → ((v : ℕ) → v < length left → get_or follows v 0 < length left) → u < length left
      → (k : ℕ) → is_left (walk starts follows n u left).1 k ≡ true → is_left left k ≡ true
  walk_fewer zero u left few ins h k q = subst (λ (w : Wire). is_left w.1 k ≡ true) (walk_none u left) q
  walk_fewer (suc n) u left few ins h k q =
      let l : length (used left u) ≡ length left = length-set left u nobody in
      by_cases (is_left left u)
      (λ e.
      used_fewer left u k few h
      (walk_fewer n (get_or follows u 0) (used left u) (rw l few) (rw l ins) (rw l (ins u h)) k
      (subst (λ (w : Wire). is_left w.1 k ≡ true) (walk_used n u left e) q)))
      (λ e. subst (λ (w : Wire). is_left w.1 k ≡ true) (walk_closed (suc n) u left e) q)

  pub wire_fewer :
      (u : ℕ) (left : List ℕ) → length left ≤ corner_limit → ((v : ℕ) → v < length left → get_or follows v 0 < length left) → u < length left
      → (k : ℕ) → is_left (wire_from starts follows u left).1 k ≡ true → is_left left k ≡ true
  unfolding wire_from
  wire_fewer u left few ins h k q = walk_fewer (left_count left) u left few ins h k q

  pub wire_uses :
      (u : ℕ) (left : List ℕ) → length left ≤ corner_limit → ((v : ℕ) → v < length left → get_or follows v 0 < length left) → u < length left
      → is_left left u ≡ true → is_left (wire_from starts follows u left).1 u ≡ false
  wire_uses u left few ins h e =
      let l : length (used left u) ≡ length left = length-set left u nobody in
      by_cases (is_left (wire_from starts follows u left).1 u)
      (λ q.
      true_false
      (sym
      (wire_fewer (get_or follows u 0) (used left u) (rw l few) (rw l ins) (rw l (ins u h)) u
      (subst (λ (w : Wire). is_left w.1 u ≡ true) (wire_used u left few h e) q))
      ∙ used_self left u few h))
      (λ q. q)
