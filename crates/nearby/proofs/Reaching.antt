-- The walk from a point takes the points that are connected to it, each once, and the point itself first. What is on the stack and what
-- is not taken yet together bound the pops that are left. Assumes nothing.
use mathlib.Core.Path.{◌≡◌, refl, sym, ap, ◌∙◌, subst}
use mathlib.Core.Logic.{◌⊎◌, inl, inr, ⊎_elim}
use mathlib.Core.Bool.{Bool, true, false, ◌&&◌, ◌||◌}
use mathlib.Core.List.{List, [], ◌∷◌, ◌++◌, append_assoc, append-nil}
use Prim.Native.Nat.{ℕ, zero, suc, ◌+◌, ◌*◌, ◌≤◌, ◌<◌}
use native.Mathlib.Nat.{suc-mul, mul-le-mul_right}
use native.Mathlib.Omega.{arith}
use lib.Dec.{eqb}
use lib.ListN.{length, length-append}
use borrow.Author.Tests.{eqb-true, eqb-false, eq-eqb}
use Rattle.lists.specs.Lists.{keep_if, has}
use Rattle.lists.proofs.Bools.{by_cases, and_both, or_left, or_right, or_false_left, or_false_right}
use Rattle.lists.proofs.Cases.{and_parts}
use Rattle.lists.proofs.Counting.{clash, or_either}
use Rattle.lists.proofs.Parts.{some_append}
use Rattle.lists.proofs.Members.{In, in_cases, in_left, in_right, in_append, in_one, in_snoc, in_last, has_keep, Once, once_one, once_snoc, free, free_snoc}
use Rattle.nearby.specs.Walk.{descending, Walk, at, walk, group_from}
use Rattle.nearby.specs.Promises.{Near}
use Rattle.nearby.proofs.Counting.{count_le}
use Rattle.nearby.proofs.Turns.{turn_old, turn_new, walk_ends}
use Rattle.lists.proofs.Chains.{Reach, here, reach_trans, reach_one}
use Rattle.lists.proofs.Classes.{Ended}

-- ---- the numbers below n that pass

passing : (p : ℕ → Bool) (n x : ℕ) → In x (descending p n) → (x < n) × (p x ≡ true)
unfolding descending
passing p zero x h = clash h refl
passing p (suc n) x h =
    ⊎_elim
    (λ q.
    let t : (p n ≡ true) × (eqb x n ≡ true) = and_parts (p n) (eqb x n) q in
    let e : x ≡ n = eqb-true x n t.1 in
    (omega arith, ap p e ∙ t.0))
    (λ q. let t : (x < n) × (p x ≡ true) = passing p n x q in (omega arith, t.1))
    (or_either (p n && eqb x n) (has x (descending p n)) (sym (has_keep x n (p n) (descending p n)) ∙ h))

all_passing : (p : ℕ → Bool) (n x : ℕ) → x < n → p x ≡ true → In x (descending p n)
unfolding descending
all_passing p zero x h e = absurd (omega arith)
all_passing p (suc n) x h e =
    has_keep x n (p n) (descending p n)
    ∙ by_cases
    (eqb x n)
    (λ t. or_left (p n && eqb x n) (has x (descending p n)) (and_both (p n) (eqb x n) (ap p (sym (eqb-true x n t)) ∙ e) t))
    (λ t.
    let ne : x ≡ n → ⊥ = eqb-false x n t in
    or_right (p n && eqb x n) (has x (descending p n)) (all_passing p n x (omega arith) e))

few_passing : (p : ℕ → Bool) (n : ℕ) → length (descending p n) ≤ n
unfolding descending
few_passing p zero = omega arith
few_passing p (suc n) = go (p n) (few_passing p n)
  where
    go : (b : Bool) → length (descending p n) ≤ n → length (keep_if b n (descending p n)) ≤ suc n
    go true h = omega arith
    go false h = omega arith

-- ---- the walk under way

module _ (r : ℕ → ℕ → Bool) (n : ℕ) (before : List ℕ) (i : ℕ) where
  -- what is taken begins with i; it is connected to i, as what waits on the stack is; and a point near one that is taken is taken or waits
  record Going (stack group : List ℕ) : Type 0 where
    rest : List ℕ
    first : group ≡ i ∷ rest
    connected : (x : ℕ) → In x group → Reach (Near r n) i x
    waiting : (x : ℕ) → In x stack → (x < n) × Reach (Near r n) i x
    fresh : (x : ℕ) → In x group → has x before ≡ false
    once : Once group
    closed : (x y : ℕ) → In x group → Near r n x y → In y (before ++ group) ⊎ In y stack

  -- a point that is popped and is old
  going_old : (j : ℕ) (s g : List ℕ) → has j (before ++ g) ≡ true → Going (j ∷ s) g → Going s g
  going_old j s g e v = record {
    rest = v.rest;
    first = v.first;
    connected = v.connected;
    waiting = λ x h. v.waiting x (or_right (eqb x j) (has x s) h);
    fresh = v.fresh;
    once = v.once;
    closed = λ x y h a. ⊎_elim inl (λ q. ⊎_elim (λ z. inl (rw z e)) inr (in_cases y j s q)) (v.closed x y h a);
  }

  -- and one that is new
  going_new : (j : ℕ) (s g : List ℕ) → has j (before ++ g) ≡ false → Going (j ∷ s) g → Going (descending (r j) n ++ s) (g ++ (j ∷ []))
  going_new j s g e v = record {
    rest = v.rest ++ (j ∷ []);
    first = ap (λ (l : List ℕ). l ++ (j ∷ [])) v.first;
    connected = λ x h. ⊎_elim (λ q. v.connected x q) (λ z. rw z top.1) (in_snoc x j g h);
    waiting = λ x h.
        ⊎_elim
        (λ q.
        let t : (x < n) × (r j x ≡ true) = passing (r j) n x q in
        (t.0, reach_trans top.1 (reach_one (top.0, t.0, t.1))))
        (λ q. v.waiting x (or_right (eqb x j) (has x s) q))
        (in_append x (descending (r j) n) s h);
    fresh = λ x h. ⊎_elim (λ q. v.fresh x q) (λ z. rw z (or_false_left (has j before) (has j g) new)) (in_snoc x j g h);
    once = once_snoc g j v.once (or_false_right (has j before) (has j g) new);
    closed = λ x y h a.
        ⊎_elim
        (λ q.
        ⊎_elim
        (λ o. inl (further y o))
        (λ o. ⊎_elim (λ z. inl (rw z (in_right j before (g ++ (j ∷ [])) (in_last j g)))) (λ w. inr (in_right y (descending (r j) n) s w)) (in_cases y j s o))
        (v.closed x y q a))
        (λ z. inr (in_left y (descending (r j) n) s (all_passing (r j) n y a.1 (subst (λ (k : ℕ). r k y ≡ true) z a.2))))
        (in_snoc x j g h);
  }
    where
      top : (j < n) × Reach (Near r n) i j
      top = v.waiting j (or_left (eqb j j) (has j s) (eq-eqb j j refl))

      new : (has j before || has j g) ≡ false
      new = sym (some_append (eqb j) before g) ∙ e

      further : (y : ℕ) → In y (before ++ g) → In y (before ++ (g ++ (j ∷ [])))
      further y h = subst (In y) (append_assoc before g (j ∷ [])) (in_left y (before ++ g) (j ∷ []) h)

  -- what is on the stack, and n + 1 for each point that is not taken
  abbrev left : List ℕ → List ℕ → ℕ
  left s g = length s + free n (before ++ g) * (n + 1)

  left_new : (j : ℕ) (s g : List ℕ) → j < n → has j (before ++ g) ≡ false → left (descending (r j) n ++ s) (g ++ (j ∷ [])) ≤ length s + n + free n (before ++ (g ++ (j ∷ []))) * (n + 1)
  left_new j s g h e = omega (arith, length-append (descending (r j) n) s, few_passing (r j) n)

  one_less : (j : ℕ) (g : List ℕ) → j < n → has j (before ++ g) ≡ false → free n (before ++ g) * (n + 1) ≡ free n (before ++ (g ++ (j ∷ []))) * (n + 1) + (n + 1)
  one_less j g h e =
      ap (λ (k : ℕ). k * (n + 1)) (free_snoc n j (before ++ g) h e ∙ ap (λ (l : List ℕ). suc (free n l)) (append_assoc before g (j ∷ [])))
      ∙ suc-mul (free n (before ++ (g ++ (j ∷ [])))) (n + 1)

  going_ends : (f : ℕ) (s g : List ℕ) → Going s g → left s g ≤ f → Going [] (walk r n before f (at s g)).group
  going_ends zero [] g v h = subst (λ (x : Walk). Going [] x.group) (sym (walk_ends r n before zero g)) v
  going_ends zero (j ∷ s) g v h = absurd (omega arith)
  going_ends (suc f) [] g v h = subst (λ (x : Walk). Going [] x.group) (sym (walk_ends r n before (suc f) g)) v
  going_ends (suc f) (j ∷ s) g v h =
      by_cases
      (has j (before ++ g))
      (λ e. subst (λ (x : Walk). Going [] x.group) (sym (turn_old r n before f j s g e)) (going_ends f s g (going_old j s g e v) (omega arith)))
      (λ e.
      let l : j < n = (v.waiting j (or_left (eqb j j) (has j s) (eq-eqb j j refl))).0 in
      subst (λ (x : Walk). Going [] x.group) (sym (turn_new r n before f j s g e))
      (going_ends f (descending (r j) n ++ s) (g ++ (j ∷ [])) (going_new j s g e v) (omega (arith, left_new j s g l e, one_less j g l e))))

  -- ---- the walk from i, where no group before has it

  module _ (inside : i < n) (out : has i before ≡ false) where
    new : has i (before ++ []) ≡ false
    new = ap (has i) (append-nil before) ∙ out

    begun : Going (descending (r i) n ++ []) (i ∷ [])
    begun = record {
      rest = [];
      first = refl;
      connected = λ x h. here (sym (in_one x i h));
      waiting = λ x h.
          ⊎_elim
          (λ q. let t : (x < n) × (r i x ≡ true) = passing (r i) n x q in (t.0, reach_one (inside, t.0, t.1)))
          (λ q. clash q refl)
          (in_append x (descending (r i) n) [] h);
      fresh = λ x h. rw (in_one x i h) out;
      once = once_one i;
      closed = λ x y h a. inr (in_left y (descending (r i) n) [] (all_passing (r i) n y a.1 (subst (λ (k : ℕ). r k y ≡ true) (in_one x i h) a.2)));
    }

    ended : Going [] (group_from r n before i)
    unfolding group_from
    ended =
        subst (λ (x : Walk). Going [] x.group) (sym (turn_new r n before (n * (n + 1)) i [] [] new))
        (going_ends (n * (n + 1)) (descending (r i) n ++ []) (i ∷ []) begun
        (let a : free n (before ++ []) ≤ n = count_le _ n in
        let b : free n (before ++ []) * (n + 1) ≤ n * (n + 1) = mul-le-mul_right (n + 1) a in
        omega (arith, left_new i [] [] inside new, one_less i [] inside new)))

    -- it takes i first, and ends with nothing near left out
    pub group_first : (rest : List ℕ) × (group_from r n before i ≡ i ∷ rest)
    group_first = (ended.rest, ended.first)

    pub group_ended : Ended (Near r n) before i (group_from r n before i)
    group_ended = record {
      start = subst (In i) (sym ended.first) (or_left (eqb i i) (has i ended.rest) (eq-eqb i i refl));
      connected = ended.connected;
      fresh = ended.fresh;
      once = ended.once;
      closed = λ x y h a. ⊎_elim (λ q. in_append y before (group_from r n before i) q) (λ q. clash q refl) (ended.closed x y h a);
    }
