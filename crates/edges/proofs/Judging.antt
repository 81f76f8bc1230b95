-- What the scan sees of the edges, edge by edge, is what the verdict asks of the uses: some edge used three times or more, some edge
-- used twice in the same direction, some edge used exactly once. Assumes nothing.
use mathlib.Core.Path.{◌≡◌, refl, sym, ap, ◌∙◌, subst, fun_ext}
use mathlib.Core.Logic.{⊎_elim}
use mathlib.Core.Bool.{Bool, true, false, cond, not, ◌&&◌, ◌||◌, and-true, and-false, and_comm, or_self, or-false}
use mathlib.Core.List.{List, [], ◌∷◌}
use Prim.Native.Nat.{ℕ, ◌≤◌, ◌<◌}
use native.Mathlib.Omega.{arith}
use lib.ListN.{length}
use lib.Dec.{leb, eqb}
use borrow.Author.Tests.{leb-true, leb-false, eqb-true, eqb-false}
use Rattle.lists.specs.Lists.{some, each, span, count}
use Rattle.lists.proofs.Bools.{by_cases, or_left, or_right}
use Rattle.lists.proofs.Cases.{iff}
use Rattle.lists.proofs.Counting.{clash, or_either, some_less, count_map, count_none}
use Rattle.lists.proofs.Mapping.{count_only, count_cong}
use Rattle.verdicts.specs.Edges.{Edge, same, flip, key, keys, uses, runs, thrice, alike, once}
use Rattle.uses.specs.Uses.{down_of}
use Rattle.scans.specs.Runs.{tally_of, tallied}
use Rattle.verdicts.proofs.SameEdge.{same_true, found}
use Rattle.verdicts.proofs.Ascending.{keys_asc}
use Rattle.verdicts.proofs.Keys.{key_order, key_or_flip, some_keys}
use Rattle.edges.proofs.Scans.{up, down, two_alike, tally_each, keyed_only}
use Rattle.uses.proofs.Reading.{use_at, lowers, highers, downs, down_at}
use Rattle.edges.proofs.Grouped.{group_at, group_uses, group_length}

-- ---- counts over a group

count_never : {A : Type 0} (l : List A) → count (λ (_ : A). false) l ≡ 0
count_never [] = refl
count_never (a ∷ l) = count_never l

-- a use of k that runs up is k, and one that runs down is k turned round, if that is another
up_same : (k e : Edge) → k.0 ≤ k.1 → (same k (key e) && not (eqb (down_of e) 1)) ≡ same k e
unfolding key
up_same k e h = go (leb e.0 e.1) refl
  where
    go : (b : Bool) → leb e.0 e.1 ≡ b → (same k (cond b e (flip e)) && not (eqb (cond b 0 1) 1)) ≡ same k e
    go true q = and-true (same k e)
    go false q =
        and-false (same k (flip e))
        ∙ sym
        (by_cases (same k e)
        (λ p.
        let l : e.1 < e.0 = leb-false e.0 e.1 q in
        absurd (let z : e.0 ≤ e.1 = subst (λ (d : Edge). d.0 ≤ d.1) (same_true k e p) h in omega arith))
        (λ p. p))

down_same : (k e : Edge) → k.0 < k.1 → (same k (key e) && eqb (down_of e) 1) ≡ same (flip k) e
unfolding key
down_same k e h = go (leb e.0 e.1) refl
  where
    flips : same k (flip e) ≡ same (flip k) e
    flips = and_comm (eqb k.0 e.1) (eqb k.1 e.0)

    go : (b : Bool) → leb e.0 e.1 ≡ b → (same k (cond b e (flip e)) && eqb (cond b 0 1) 1) ≡ same (flip k) e
    go true q =
        and-false (same k e)
        ∙ sym
        (by_cases (same (flip k) e)
        (λ p.
        let l : e.0 ≤ e.1 = leb-true e.0 e.1 q in
        absurd (let z : e.1 < e.0 = subst (λ (d : Edge). d.1 < d.0) (same_true (flip k) e p) h in omega arith))
        (λ p. p))
    go false q = and-true (same k (flip e)) ∙ flips

down_none : (k e : Edge) → k.0 ≡ k.1 → (same k (key e) && eqb (down_of e) 1) ≡ false
unfolding key
down_none k e h = go (leb e.0 e.1) refl
  where
    go : (b : Bool) → leb e.0 e.1 ≡ b → (same k (cond b e (flip e)) && eqb (cond b 0 1) 1) ≡ false
    go true q = and-false (same k e)
    go false q =
        and-true (same k (flip e))
        ∙ by_cases (same k (flip e))
        (λ p.
        let l : e.1 < e.0 = leb-false e.0 e.1 q in
        absurd (let z : e.1 ≡ e.0 = subst (λ (d : Edge). d.0 ≡ d.1) (same_true k (flip e) p) h in omega arith))
        (λ p. p)

module _ (es : List Edge) where
  -- what a test of the uses counts in the group of k
  count_group : (k : Edge) (p : Edge → Bool) → count (λ u. p (use_at es u)) (group_at es k) ≡ count (λ e. same k (key e) && p e) es
  count_group k p =
      sym (count_map p (use_at es) (group_at es k)) ∙ ap (count p) (group_uses es k) ∙ count_only p (λ e. same k (key e)) es

  ups_are : (k : Edge) → k.0 ≤ k.1 → count (up (downs es)) (group_at es k) ≡ runs k es
  ups_are k h =
      count_cong (up (downs es)) (λ u. not (eqb (down_of (use_at es u)) 1)) (λ u. ap (λ (n : ℕ). not (eqb n 1)) (down_at es u)) (group_at es k)
      ∙ count_group k (λ e. not (eqb (down_of e) 1))
      ∙ count_cong _ (same k) (λ e. up_same k e h) es

  downs_are : (k : Edge) (p : Edge → Bool) → ((e : Edge) → (same k (key e) && eqb (down_of e) 1) ≡ p e) → count (down (downs es)) (group_at es k) ≡ count p es
  downs_are k p h =
      count_cong (down (downs es)) (λ u. eqb (down_of (use_at es u)) 1) (λ u. ap (λ (n : ℕ). eqb n 1) (down_at es u)) (group_at es k)
      ∙ count_group k (λ e. eqb (down_of e) 1)
      ∙ count_cong _ p h es

  -- an edge with two equal positions counts as the same direction always
  two_alike_lem : (k : Edge) → k.0 ≤ k.1 → two_alike (downs es) (group_at es k) ≡ (leb 2 (runs k es) || leb 2 (runs (flip k) es))
  two_alike_lem k h =
      ap (λ (n : ℕ). leb 2 n || leb 2 (count (down (downs es)) (group_at es k))) (ups_are k h)
      ∙ by_cases (eqb k.0 k.1)
      (λ p.
      let e : k.0 ≡ k.1 = eqb-true k.0 k.1 p in
      let f : flip k ≡ k = λ i. (sym e i, e i) in
      ap (λ (n : ℕ). leb 2 (runs k es) || leb 2 n) (downs_are k (λ _. false) (λ d. down_none k d e) ∙ count_never es)
      ∙ or-false (leb 2 (runs k es))
      ∙ sym (or_self (leb 2 (runs k es)))
      ∙ ap (λ (d : Edge). leb 2 (runs k es) || leb 2 (runs d es)) (sym f))
      (λ p.
      let ne : k.0 ≡ k.1 → ⊥ = eqb-false k.0 k.1 p in
      let l : k.0 < k.1 = omega arith in
      ap (λ (n : ℕ). leb 2 (runs k es) || leb 2 n) (downs_are k (same (flip k)) (λ d. down_same k d l)))

-- ---- some edge used twice in the same direction

-- an edge that is used is among the uses
some_at : (q : Edge → Bool) (d : Edge) (l : List Edge) → q d ≡ true → some (same d) l ≡ true → some q l ≡ true
some_at q d [] h m = m
some_at q d (x ∷ l) h m =
    ⊎_elim
    (λ p. or_left (q x) (some q l) (subst (λ (e : Edge). q e ≡ true) (same_true d x p) h))
    (λ p. or_right (q x) (some q l) (some_at q d l h p))
    (or_either (same d x) (some (same d) l) m)

module _ (es : List Edge) where
  used_twice : (d : Edge) → leb 2 (runs d es) ≡ true → alike es ≡ true
  used_twice d h =
      some_at (λ e. leb 2 (runs e es)) d es h
      (by_cases (some (same d) es)
      (λ p. p)
      (λ p.
      let l : 2 ≤ runs d es = leb-true 2 (runs d es) h in
      absurd (let z : runs d es ≡ 0 = count_none (same d) es p in omega arith)))

  alike_there : (k : Edge) → two_alike (downs es) (group_at es (key k)) ≡ true → alike es ≡ true
  alike_there k h =
      ⊎_elim (used_twice (key k)) (used_twice (flip (key k)))
      (or_either (leb 2 (runs (key k) es)) (leb 2 (runs (flip (key k)) es)) (sym (two_alike_lem es (key k) (key_order k)) ∙ h))

  -- some use with a twin: so has its edge
  alike_back : (e : Edge) → leb 2 (runs e es) ≡ true → two_alike (downs es) (group_at es (key e)) ≡ true
  alike_back e h =
      two_alike_lem es (key e) (key_order e)
      ∙ ⊎_elim
      (λ p. or_left (leb 2 (runs (key e) es)) (leb 2 (runs (flip (key e)) es)) (subst (λ (d : Edge). leb 2 (runs d es) ≡ true) p h))
      (λ p. or_right (leb 2 (runs (key e) es)) (leb 2 (runs (flip (key e)) es)) (subst (λ (d : Edge). leb 2 (runs d es) ≡ true) p h))
      (key_or_flip e)

  alike_is : some (λ k. two_alike (downs es) (group_at es k)) (keys es) ≡ alike es
  alike_is =
      some_keys (λ k. two_alike (downs es) (group_at es k)) es
      ∙ iff (some (λ e. two_alike (downs es) (group_at es (key e))) es) (alike es)
      (λ h.
      let r : (e : Edge) × (two_alike (downs es) (group_at es (key e)) ≡ true) × (some (same e) es ≡ true) = found (λ e. two_alike (downs es) (group_at es (key e))) es h in
      alike_there r.0 r.1)
      (λ h.
      by_cases (some (λ e. two_alike (downs es) (group_at es (key e))) es)
      (λ p. p)
      (λ p. clash h (some_less (λ e. two_alike (downs es) (group_at es (key e))) (λ e. leb 2 (runs e es)) es alike_back p)))

  -- a test of the number of uses of some edge
  uses_is : (q : ℕ → Bool) → some (λ k. q (length (group_at es k))) (keys es) ≡ some (λ e. q (uses (key e) es)) es
  uses_is q =
      ap (λ (p : Edge → Bool). some p (keys es)) (fun_ext (λ k. ap q (group_length es k))) ∙ some_keys (λ k. q (uses k es)) es

  -- what the scan sees
  pub judged_uses :
      tallied (lowers es) (highers es) (downs es) (tally_of 0 0 false false false) (each (group_at es) (keys es)) ≡ tally_of 0 0 (thrice es) (alike es) (once es)
  judged_uses =
      tally_each (lowers es) (highers es) (downs es) (group_at es) (λ k. keyed_only (lowers es) (highers es) k (span 0 (length es))) (keys es) (keys_asc es) false false false
      ∙ (λ i. tally_of 0 0 (uses_is (leb 3) i) (alike_is i) (uses_is (eqb 1) i))
