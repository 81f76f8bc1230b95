-- Laws of `only`: of two lists, of a first part, of a test that every element passes. Assumes nothing.
use mathlib.Core.Path.{◌≡◌, refl, sym, ap, ◌∙◌}
use mathlib.Core.Bool.{Bool, true, false, ◌||◌}
use mathlib.Core.List.{List, [], ◌∷◌, ◌++◌}
use Prim.Native.Nat.{ℕ, suc, ◌+◌, ◌≤◌, ◌<◌}
use native.Mathlib.Numerals.{add-one}
use native.Mathlib.Omega.{arith}
use lib.ListN.{length, get_or, take, drop, take-append-drop}
use lib.Seq.{take-suc}
use Rattle.lists.specs.Lists.{only, keep_if, some, every}
use Rattle.lists.proofs.Bools.{and_left, and_right, and_both, or_left, or_right, by_cases}

module _ {A : Type 0} (p : A → Bool) where
  keep_append : (b : Bool) (x : A) (s t : List A) → keep_if b x (s ++ t) ≡ keep_if b x s ++ t
  keep_append true x s t = refl
  keep_append false x s t = refl

  pub only_append : (s t : List A) → only p (s ++ t) ≡ only p s ++ only p t
  only_append [] t = refl
  only_append (x ∷ s) t = ap (keep_if (p x) x) (only_append s t) ∙ keep_append (p x) x (only p s) (only p t)

  -- of what comes first and what is left
  pub only_split : (k : ℕ) (l : List A) → only p l ≡ only p (take k l) ++ only p (drop k l)
  only_split k l = ap (only p) (sym (take-append-drop k l)) ∙ only_append (take k l) (drop k l)

  -- one element more is looked at
  pub only_step : (d : A) (l : List A) (k : ℕ) → k < length l → only p (take (k + 1) l) ≡ only p (take k l) ++ only p (get_or l k d ∷ [])
  only_step d l k h = rw (add-one k, take-suc l k d h) (only_append (take k l) (get_or l k d ∷ []))

  pub only_length : (l : List A) → length (only p l) ≤ length l
  only_length [] = omega arith
  only_length (x ∷ l) = go (p x) (only_length l)
    where
      go : (b : Bool) → length (only p l) ≤ length l → length (keep_if b x (only p l)) ≤ suc (length l)
      go true h = omega arith
      go false h = omega arith

  -- what one that is left passes, some pass
  pub some_only : (q : A → Bool) (l : List A) → some q (only p l) ≡ true → some q l ≡ true
  some_only q [] h = h
  some_only q (x ∷ l) h = go (p x) h (some_only q l)
    where
      go : (b : Bool) → some q (keep_if b x (only p l)) ≡ true → (some q (only p l) ≡ true → some q l ≡ true) → (q x || some q l) ≡ true
      go true h i = by_cases (q x) (λ e. or_left (q x) (some q l) e) (λ e. or_right (q x) (some q l) (i (rw e at h)))
      go false h i = or_right (q x) (some q l) (i h)

  -- what every element passes, every one that is left passes
  pub every_only : (q : A → Bool) (l : List A) → every q l ≡ true → every q (only p l) ≡ true
  every_only q [] h = refl
  every_only q (x ∷ l) h = go (p x) (every_only q l (and_right (q x) (every q l) h))
    where
      go : (b : Bool) → every q (only p l) ≡ true → every q (keep_if b x (only p l)) ≡ true
      go true i = and_both (q x) (every q (only p l)) (and_left (q x) (every q l) h) i
      go false i = i

  -- where every element passes the test, all are left; every one that is left passes it
  pub only_all : (l : List A) → every p l ≡ true → only p l ≡ l
  only_all [] h = refl
  only_all (x ∷ l) h = rw (and_left (p x) (every p l) h) (ap (λ (r : List A). x ∷ r) (only_all l (and_right (p x) (every p l) h)))

  pub every_self : (l : List A) → every p (only p l) ≡ true
  every_self [] = refl
  every_self (x ∷ l) = by_cases (p x) (λ e. rw e (and_both (p x) (every p (only p l)) e (every_self l))) (λ e. rw e (every_self l))
