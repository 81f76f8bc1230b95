-- The points that are taken, as a list and as flags: one more of both. Assumes nothing.
use mathlib.Core.Path.{◌≡◌, refl, sym, ap, ◌∙◌}
use mathlib.Core.Logic.{◌≢◌}
use mathlib.Core.Bool.{Bool, true, false}
use mathlib.Core.List.{List, [], ◌∷◌, ◌++◌}
use Prim.Native.Nat.{ℕ, zero, suc, ◌+◌, ◌≤◌, ◌<◌}
use native.Mathlib.Omega.{arith}
use native.Mathlib.Numerals.{add-one}
use lib.Dec.{eqb}
use lib.ListN.{length, get_or, set, take, length-set, replicate, length-replicate, get_or-replicate, get_or-eq_default}
use lib.Seq.{get_or-set_same, get_or-set_other, take-suc-set}
use borrow.Author.Tests.{eqb-true, eqb-false, ltb-true, ltb-false}
use lib.Dec.{ltb}
use Rattle.lists.specs.Lists.{bump, has}
use Rattle.lists.specs.Numbers.{count_below}
use Rattle.lists.proofs.Bools.{by_cases}
use Rattle.lists.proofs.Members.{has_snoc}
use Rattle.nearby.specs.Engine.{Taken}
use Rattle.nearby.proofs.Counting.{bump_le, count_le}

-- ---- counting

-- a number below n that does not pass leaves fewer than n
pub count_short : (p : ℕ → Bool) (n j : ℕ) → j < n → p j ≡ false → count_below p n < n
unfolding count_below
count_short p zero j h e = absurd (let z : suc j ≤ 0 = h in omega arith)
count_short p (suc n) j h e =
    by_cases (eqb j n)
    (λ t. rw (let z : p n ≡ false = ap p (sym (eqb-true j n t)) ∙ e in z) (let a = count_le p n in omega arith))
    (λ t.
    let ne : j ≡ n → ⊥ = eqb-false j n t in
    let a : count_below p n < n = count_short p n j (let z : j < suc n = h in omega arith) e in
    let b : bump (p n) (count_below p n) ≤ suc (count_below p n) = bump_le (p n) (count_below p n) in
    omega arith)

count_same : (p q : ℕ → Bool) (n : ℕ) → ((k : ℕ) → k < n → q k ≡ p k) → count_below q n ≡ count_below p n
unfolding count_below
count_same p q zero h = refl
count_same p q (suc n) h = rw (h n (omega arith), count_same p q n (λ k l. h k (let z : k < n = l in omega arith)))

-- one more passes
count_more : (p q : ℕ → Bool) (n j : ℕ) → j < n → p j ≡ false → q j ≡ true → ((k : ℕ) → k ≢ j → q k ≡ p k) → count_below q n ≡ suc (count_below p n)
unfolding count_below
count_more p q zero j h e f g = absurd (let z : suc j ≤ 0 = h in omega arith)
count_more p q (suc n) j h e f g =
    by_cases (eqb j n)
    (λ t.
    let i : j ≡ n = eqb-true j n t in
    let a : count_below q n ≡ count_below p n = count_same p q n (λ k l. g k (λ z. let y : k < n = l in let x : k ≡ j = z in omega arith)) in
    rw (let z : q n ≡ true = ap q (sym i) ∙ f in z, let z : p n ≡ false = ap p (sym i) ∙ e in z, a))
    (λ t.
    let ne : j ≡ n → ⊥ = eqb-false j n t in
    rw (g n (λ z. ne (sym z)), count_more p q n j (let z : j < suc n = h in omega arith) e f g) (past (p n) (count_below p n)))
  where
    past : (b : Bool) (m : ℕ) → bump b (suc m) ≡ suc (bump b m)
    past true m = refl
    past false m = refl

-- ---- one point more

module _ (n : ℕ) (order : List ℕ) (seen : List Bool) (c j : ℕ) (g : Taken n order seen c) (small : j < n) (new : get_or seen j false ≡ false) where
  abbrev flag : List Bool → ℕ → Bool
  flag l k = get_or l k false

  -- there is room for it
  pub room : c < n
  room = omega (arith, g.counts, count_short (flag seen) n j small new)

  in_order : c < length order
  in_order = omega (arith, room, g.order_room)

  in_seen : j < length seen
  in_seen = omega (arith, g.seen_room)

  pub list_more : take (c + 1) (set order c j) ≡ take c order ++ (j ∷ [])
  list_more = rw add-one (take-suc-set order c j in_order)

  flags_more : (k : ℕ) → k < n → get_or (set seen j true) k false ≡ has k (take (c + 1) (set order c j))
  flags_more k l =
      rw (list_more, has_snoc)
      (by_cases (eqb k j)
      (λ t.
      rw t
      (ap (flag (set seen j true)) (eqb-true k j t) ∙ get_or-set_same seen j true false in_seen))
      (λ t.
      rw t
      (get_or-set_other seen j k true false (eqb-false k j t) ∙ g.flags k l)))

  within_more : (k : ℕ) → k < c + 1 → get_or (set order c j) k 0 < n
  within_more k l =
      by_cases (eqb k c)
      (λ t.
      let q : get_or (set order c j) k 0 ≡ j = ap (λ (d : ℕ). get_or (set order c j) d 0) (eqb-true k c t) ∙ get_or-set_same order c j 0 in_order in
      omega arith)
      (λ t.
      let y : k ≡ c → ⊥ = eqb-false k c t in
      let q : get_or (set order c j) k 0 ≡ get_or order k 0 = get_or-set_other order c k j 0 y in
      let m : k < c + 1 = l in
      let z : get_or order k 0 < n = g.within k (omega arith) in
      omega arith)

  pub taken_more : Taken n (set order c j) (set seen j true) (c + 1)
  taken_more = record {
    order_room = omega (arith, g.order_room, length-set order c j);
    seen_room = omega (arith, g.seen_room, length-set seen j true);
    counts =
        rw add-one
        (ap suc g.counts
        ∙ sym (count_more (flag seen) (flag (set seen j true)) n j small new (get_or-set_same seen j true false in_seen) (λ k z. get_or-set_other seen j k true false z)));
    flags = flags_more;
    within = within_more;
  }

  -- what was taken stays so
  pub still : (k : ℕ) → get_or seen k false ≡ true → get_or (set seen j true) k false ≡ true
  still k e =
      by_cases (eqb k j)
      (λ t. ap (flag (set seen j true)) (eqb-true k j t) ∙ get_or-set_same seen j true false in_seen)
      (λ t. get_or-set_other seen j k true false (eqb-false k j t) ∙ e)

-- ---- nothing taken

pub get_or-none : (m k : ℕ) → get_or (replicate m false) k false ≡ false
get_or-none m k =
    by_cases (ltb k m)
    (λ h. get_or-replicate m k false false (ltb-true k m h))
    (λ h. get_or-eq_default (replicate m false) false (omega (arith, length-replicate {A = Bool} m false, ltb-false k m h)))

count_none : (p : ℕ → Bool) (n : ℕ) → ((k : ℕ) → p k ≡ false) → count_below p n ≡ 0
unfolding count_below
count_none p zero h = refl
count_none p (suc n) h = rw (h n) (count_none p n h)

pub taken_none : (n m : ℕ) (order : List ℕ) → n ≤ length order → n ≤ m → Taken n order (replicate m false) 0
taken_none n m order h l = record {
  order_room = h;
  seen_room = omega (arith, length-replicate {A = Bool} m false);
  counts = sym (count_none (λ k. get_or (replicate m false) k false) n (get_or-none m));
  flags = λ k z. get_or-none m k;
  within = λ k z. absurd (let y : suc k ≤ 0 = z in omega arith);
}
