-- Lists of numbers that are the connected sets of a relation: two numbers stand in one list exactly where a chain of steps leads from
-- the one to the other, and each number stands in exactly one list, once. Assumes nothing.
use mathlib.Core.Path.{◌≡◌, refl, sym, subst}
use mathlib.Core.Logic.{◌⊎◌, ⊎_elim}
use mathlib.Core.Bool.{true, false, ◌&&◌}
use mathlib.Core.List.{List, [], ◌∷◌, ◌++◌}
use Prim.Native.Nat.{ℕ, suc, ◌<◌}
use native.Mathlib.Omega.{arith}
use lib.Dec.{eqb}
use borrow.Author.Tests.{eqb-true, eqb-false}
use Rattle.lists.specs.Lists.{has, joined, together}
use Rattle.lists.proofs.Bools.{by_cases, and_both, or_left, or_right}
use Rattle.lists.proofs.Cases.{and_parts}
use Rattle.lists.proofs.Counting.{clash, or_either}
use Rattle.lists.proofs.Parts.{joined_snoc}
use Rattle.lists.proofs.Members.{In, in_left, in_right, in_append, Once, once_append}
use Rattle.lists.proofs.Chains.{Reach, here, step, reach_trans, reach_one, reach_sym}

-- what holds below i and at i holds below i + 1
upto : (P : ℕ → Type 0) (i : ℕ) → ((x : ℕ) → x < i → P x) → P i → (x : ℕ) → x < suc i → P x
upto P i f g x l =
    by_cases (eqb x i) (λ p. subst P (sym (eqb-true x i p)) g) (λ p. let ne : x ≡ i → ⊥ = eqb-false x i p in f x (omega arith))

module _ (R : ℕ → ℕ → Type 0) where
  -- a list holds, with a number, the numbers connected to it and no other
  abbrev pub IsClass : List ℕ → Type 0
  IsClass p = (a b : ℕ) → In a p → (In b p → Reach R a b) × (Reach R a b → In b p)

  abbrev pub Classes : List (List ℕ) → Type 0
  Classes [] = Unit {0}
  Classes (p ∷ ps) = IsClass p × Classes ps

  classes_snoc : (ps : List (List ℕ)) (p : List ℕ) → Classes ps → IsClass p → Classes (ps ++ (p ∷ []))
  classes_snoc [] p c k = (k, tt)
  classes_snoc (q ∷ ps) p c k = (c.0, classes_snoc ps p c.1 k)

  -- no step leads out of them
  pub classes_shut : (ps : List (List ℕ)) → Classes ps → (x y : ℕ) → In x (joined ps) → R x y → In y (joined ps)
  classes_shut [] c x y h a = clash h refl
  classes_shut (p ∷ ps) c x y h a =
      ⊎_elim
      (λ q. in_left y p (joined ps) ((c.0 x y q).1 (reach_one a)))
      (λ q. in_right y p (joined ps) (classes_shut ps c.1 x y q a))
      (in_append x p (joined ps) h)

  pub together_reach : (ps : List (List ℕ)) → Classes ps → (a b : ℕ) → together a b ps ≡ true → Reach R a b
  together_reach [] c a b h = clash h refl
  together_reach (p ∷ ps) c a b h =
      ⊎_elim
      (λ q. let t : (has a p ≡ true) × (has b p ≡ true) = and_parts _ _ q in (c.0 a b t.0).0 t.1)
      (λ q. together_reach ps c.1 a b q)
      (or_either _ _ h)

  pub reach_together : (ps : List (List ℕ)) → Classes ps → (a b : ℕ) → In a (joined ps) → Reach R a b → together a b ps ≡ true
  reach_together [] c a b h t = clash h refl
  reach_together (p ∷ ps) c a b h t =
      ⊎_elim
      (λ q. or_left (has a p && has b p) (together a b ps) (and_both (has a p) (has b p) q ((c.0 a b q).1 t)))
      (λ q. or_right (has a p && has b p) (together a b ps) (reach_together ps c.1 a b q t))
      (in_append a p (joined ps) h)

  -- a search from i has ended beside the lists before: what it found is connected to i, and no step leads out of it but to those
  pub record Ended (old : List ℕ) (i : ℕ) (found : List ℕ) : Type 0 where
    pub start : In i found
    pub connected : (x : ℕ) → In x found → Reach R i x
    pub fresh : (x : ℕ) → In x found → has x old ≡ false
    pub once : Once found
    pub closed : (x y : ℕ) → In x found → R x y → In y old ⊎ In y found

  -- the lists that stand when the numbers below i have been looked at, of m numbers
  pub record Parted (m i : ℕ) (ps : List (List ℕ)) : Type 0 where
    pub classes : Classes ps
    pub placed : (x : ℕ) → x < i → In x (joined ps)
    pub inside : (x : ℕ) → In x (joined ps) → x < m
    pub once : Once (joined ps)

  pub parted_none : (m : ℕ) → Parted m 0 []
  parted_none m =
      record { classes = tt; placed = λ x h. absurd (omega arith); inside = λ x h. clash h refl; once = λ x. omega arith }

  -- i stands in one of them
  pub parted_same : (m i : ℕ) (ps : List (List ℕ)) → Parted m i ps → In i (joined ps) → Parted m (suc i) ps
  parted_same m i ps r h =
      record { classes = r.classes; placed = upto (λ x. In x (joined ps)) i r.placed h; inside = r.inside; once = r.once }

  -- steps go both ways, and stay below m
  module _ (m : ℕ) (both : (x y : ℕ) → R x y → R y x) (bound : (x y : ℕ) → R x y → y < m) where
    reach_below : {a x : ℕ} → a < m → Reach R a x → x < m
    reach_below l (here p) = subst (λ z. z < m) p l
    reach_below l (step {a = a} {b = b} r t) = reach_below (bound a b r) t

    -- i stands in none of them: the list that a search from it found comes behind
    pub parted_more : (i : ℕ) (ps : List (List ℕ)) → i < m → Parted m i ps → (p : List ℕ) → Ended (joined ps) i p → Parted m (suc i) (ps ++ (p ∷ []))
    parted_more i ps l r p s = record {
      classes = classes_snoc ps p r.classes class;
      placed = λ x k.
          rw (joined_snoc ps p)
          (upto
          (λ y. In y (joined ps ++ p))
          i
          (λ y w. in_left y (joined ps) p (r.placed y w))
          (in_right i (joined ps) p s.start)
          x
          k);
      inside = λ x h.
          ⊎_elim
          (λ q. r.inside x q)
          (λ q. reach_below l (s.connected x q))
          (in_append x (joined ps) p (subst (In x) (joined_snoc ps p) h));
      once = subst Once (sym (joined_snoc ps p)) (once_append (joined ps) p r.once s.once s.fresh);
    }
      where
        -- what is connected to a number that was found was found: no step leads to it from the lists before
        all : {a x : ℕ} → In a p → Reach R a x → In x p
        all h (here e) = subst (λ w. In w p) e h
        all h (step {a = a} {b = b} q t) =
            all
            (⊎_elim
            (λ o. clash (classes_shut ps r.classes b a o (both a b q)) (s.fresh a h))
            (λ o. o)
            (s.closed a b h q))
            t

        class : IsClass p
        class a b ha = (
          λ hb. reach_trans (reach_sym both (s.connected a ha)) (s.connected b hb),
          λ t. all ha t,
        )
