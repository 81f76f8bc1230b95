-- Laws of `count`, and of `some` by way of it. Assumes nothing.
use mathlib.Core.Path.{◌≡◌, refl, sym, ap, ◌∙◌}
use mathlib.Core.Logic.{◌⊎◌, inl, inr}
use mathlib.Core.Bool.{Bool, true, false, ◌||◌}
use mathlib.Core.List.{List, [], ◌∷◌, ◌++◌, map}
use Prim.Native.Nat.{ℕ, zero, suc, ◌+◌, ◌≤◌, ◌<◌}
use native.Mathlib.Nat.{zero-add, suc-add}
use native.Mathlib.Omega.{arith}
use lib.ListN.{length}
use Rattle.lists.specs.Lists.{bump, count, some}
use Rattle.lists.proofs.Bools.{by_cases, true_false, or_false_left, or_false_right}

-- no test is both
pub clash : {A : Type 0} {b : Bool} → b ≡ true → b ≡ false → A
clash p q = true_false (sym p ∙ q)

pub or_either : (a b : Bool) → (a || b) ≡ true → (a ≡ true) ⊎ (b ≡ true)
or_either true b h = inl refl
or_either false b h = inr h

-- ---- one more

pub bump_plus : (b : Bool) (n : ℕ) → bump b n ≡ n + bump b 0
bump_plus true n = omega arith
bump_plus false n = omega arith

pub bump_add : (b : Bool) (x y : ℕ) → bump b (x + y) ≡ bump b x + y
bump_add true x y = sym (suc-add x y)
bump_add false x y = refl

pub bump_swap : (b c : Bool) (n : ℕ) → bump b (bump c n) ≡ bump c (bump b n)
bump_swap true true n = refl
bump_swap true false n = refl
bump_swap false true n = refl
bump_swap false false n = refl

pub bump_inj : (b : Bool) (m n : ℕ) → bump b m ≡ bump b n → m ≡ n
bump_inj true m n e = omega arith
bump_inj false m n e = e

pub bump_up : (b : Bool) (n : ℕ) → 0 < n → 0 < bump b n
bump_up true n l = omega arith
bump_up false n l = l

-- ---- whether a number is above 0

abbrev pub pos : ℕ → Bool
pos zero = false
pos (suc n) = true

pub pos_false : (n : ℕ) → pos n ≡ false → n ≡ 0
pos_false zero h = refl
pos_false (suc n) h = true_false h

pub pos_true : (n : ℕ) → pos n ≡ true → 0 < n
pos_true zero h = clash h refl
pos_true (suc n) h = omega arith

pub true_pos : (n : ℕ) → 0 < n → pos n ≡ true
true_pos zero h = absurd (omega arith)
true_pos (suc n) h = refl

-- ---- counts

module _ {A : Type 0} where
  pub count_append : (p : A → Bool) (s t : List A) → count p (s ++ t) ≡ count p s + count p t
  count_append p [] t = sym (zero-add (count p t))
  count_append p (x ∷ s) t = ap (bump (p x)) (count_append p s t) ∙ bump_add (p x) (count p s) (count p t)

  -- all of them
  pub count_all : (l : List A) → count (λ x. true) l ≡ length l
  count_all [] = refl
  count_all (x ∷ l) = ap suc (count_all l)

  -- a narrower test passes no more
  pub count_less : (p q : A → Bool) (l : List A) → ((x : A) → p x ≡ true → q x ≡ true) → count p l ≤ count q l
  count_less p q [] h = omega arith
  count_less p q (x ∷ l) h = go (p x) (q x) (h x) (count_less p q l h)
    where
      go : (a b : Bool) → (a ≡ true → b ≡ true) → count p l ≤ count q l → bump a (count p l) ≤ bump b (count q l)
      go true true f ih = omega arith
      go true false f ih = clash (f refl) refl
      go false true f ih = omega arith
      go false false f ih = ih

  pub count_length : (p : A → Bool) (l : List A) → count p l ≤ length l
  count_length p l = let e : count (λ x. true) l ≡ length l = count_all l in let h : count p l ≤ count (λ x. true) l = count_less p (λ x. true) l (λ x q. refl) in omega arith

  -- some pass where the count is not 0
  pub some_count : (p : A → Bool) (l : List A) → some p l ≡ pos (count p l)
  some_count p [] = refl
  some_count p (x ∷ l) = ap (λ b. p x || b) (some_count p l) ∙ step (p x) (count p l)
    where
      step : (b : Bool) (n : ℕ) → (b || pos n) ≡ pos (bump b n)
      step true n = refl
      step false n = refl

  pub count_some : (p : A → Bool) (l : List A) → some p l ≡ true → 0 < count p l
  count_some p l h = pos_true (count p l) (sym (some_count p l) ∙ h)

  pub count_none : (p : A → Bool) (l : List A) → some p l ≡ false → count p l ≡ 0
  count_none p l h = pos_false (count p l) (sym (some_count p l) ∙ h)

  pub some_counted : (p : A → Bool) (l : List A) → 0 < count p l → some p l ≡ true
  some_counted p l h = some_count p l ∙ true_pos (count p l) h

  -- what none passes, none passes that is narrower
  pub some_less : (p q : A → Bool) (l : List A) → ((x : A) → q x ≡ true → p x ≡ true) → some p l ≡ false → some q l ≡ false
  some_less p q [] h n = refl
  some_less p q (x ∷ l) h n =
      by_cases (q x) (λ y. clash (h x y) (or_false_left (p x) (some p l) n)) (λ y. rw y (some_less p q l h (or_false_right (p x) (some p l) n)))

module _ {A B : Type 0} where
  pub count_map : (p : B → Bool) (f : A → B) (l : List A) → count p (map f l) ≡ count (λ x. p (f x)) l
  count_map p f [] = refl
  count_map p f (x ∷ l) = ap (bump (p (f x))) (count_map p f l)
