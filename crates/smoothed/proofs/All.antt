-- What holds of each element of a list, and what `some` and `count` then say. Assumes nothing.
use mathlib.Core.Path.{◌≡◌, refl, sym, ap, ap₂, ◌∙◌}
use mathlib.Core.Logic.{⊎_elim}
use mathlib.Core.Bool.{Bool, true, false, ◌||◌}
use mathlib.Core.List.{List, [], ◌∷◌, ◌++◌}
use Prim.Native.Nat.{ℕ, suc, ◌+◌, ◌*◌}
use native.Mathlib.Nat.{zero-mul, suc-mul}
use native.Mathlib.Omega.{arith}
use lib.ListN.{length, length-append}
use Rattle.lists.specs.Lists.{some, every, each, count, bump}
use Rattle.lists.proofs.Bools.{and_left, and_right, and_both, or_left, or_right, or_neither, or_false_left, or_false_right}
use Rattle.lists.proofs.Counting.{or_either, bump_plus, count_append}
use Rattle.lists.proofs.Parts.{some_append, every_append}

pub data All {A : Type 0} (P : A → Type 0) : List A → Type 0 where
  none : All P []
  more : {x : A} {l : List A} → P x → All P l → All P (x ∷ l)

module _ {A : Type 0} where
  pub all_map : {P Q : A → Type 0} → ((x : A) → P x → Q x) → {l : List A} → All P l → All Q l
  all_map f none = none
  all_map f (more {x = x} p r) = more (f x p) (all_map f r)

  -- what holds of all there are
  pub all_here : {P : A → Type 0} → ((x : A) → P x) → (l : List A) → All P l
  all_here f [] = none
  all_here f (x ∷ l) = more (f x) (all_here f l)

  pub all_append : {P : A → Type 0} {s t : List A} → All P s → All P t → All P (s ++ t)
  all_append none b = b
  all_append (more p r) b = more p (all_append r b)

  pub all_both : {P Q : A → Type 0} {l : List A} → All P l → All Q l → All (λ x. P x × Q x) l
  all_both none none = none
  all_both (more p r) (more q s) = more (p, q) (all_both r s)

  -- by tests of all the elements
  pub all_every : (p : A → Bool) (l : List A) → every p l ≡ true → All (λ x. p x ≡ true) l
  all_every p [] h = none
  all_every p (x ∷ l) h = more (and_left (p x) (every p l) h) (all_every p l (and_right (p x) (every p l) h))

  pub every_back : (p : A → Bool) {l : List A} → All (λ x. p x ≡ true) l → every p l ≡ true
  every_back p none = refl
  every_back p (more {x = x} {l = l} e r) = and_both (p x) (every p l) e (every_back p r)

  pub all_fail : (p : A → Bool) (l : List A) → some p l ≡ false → All (λ x. p x ≡ false) l
  all_fail p [] h = none
  all_fail p (x ∷ l) h = more (or_false_left (p x) (some p l) h) (all_fail p l (or_false_right (p x) (some p l) h))

  -- two tests that agree at each
  pub some_all : (p q : A → Bool) {l : List A} → All (λ x. p x ≡ q x) l → some p l ≡ some q l
  some_all p q none = refl
  some_all p q (more e r) = ap₂ ◌||◌ e (some_all p q r)

  -- a test that passes where another does
  pub some_where : (p q : A → Bool) {l : List A} → All (λ x. p x ≡ true → q x ≡ true) l → some p l ≡ true → some q l ≡ true
  some_where p q none h = h
  some_where p q (more {x = x} {l = l} e r) h =
      ⊎_elim (λ s. or_left (q x) (some q l) (e s)) (λ s. or_right (q x) (some q l) (some_where p q r s)) (or_either (p x) (some p l) h)

  -- a test that fails at each
  pub count_zero : (p : A → Bool) {l : List A} → All (λ x. p x ≡ false) l → count p l ≡ 0
  count_zero p none = refl
  count_zero p (more {x = x} {l = l} e r) = rw e (count_zero p r)

module _ {A B : Type 0} (f : A → List B) where
  pub all_each : {P : B → Type 0} {l : List A} → All (λ x. All P (f x)) l → All P (each f l)
  all_each none = none
  all_each (more p r) = all_append p (all_each r)

  pub some_each : (p : B → Bool) (l : List A) → some p (each f l) ≡ some (λ x. some p (f x)) l
  some_each p [] = refl
  some_each p (x ∷ l) = some_append p (f x) (each f l) ∙ ap (λ b. some p (f x) || b) (some_each p l)

  pub none_each : (p : B → Bool) {l : List A} → All (λ x. some p (f x) ≡ false) l → some p (each f l) ≡ false
  none_each p none = refl
  none_each p (more {x = x} {l = l} e r) = some_append p (f x) (each f l) ∙ or_neither (some p (f x)) (some p (each f l)) e (none_each p r)

  pub every_each : (p : B → Bool) {l : List A} → All (λ x. every p (f x) ≡ true) l → every p (each f l) ≡ true
  every_each p none = refl
  every_each p (more {x = x} {l = l} e r) = every_append p (f x) (each f l) ∙ and_both (every p (f x)) (every p (each f l)) e (every_each p r)

  -- as many for each
  pub length_each : (m : ℕ) {l : List A} → All (λ x. length (f x) ≡ m) l → length (each f l) ≡ length l * m
  length_each m none = sym (zero-mul m)
  length_each m (more {x = x} {l = l} e r) =
      let h : length (each f l) ≡ length l * m = length_each m r in
      let a : length (f x ++ each f l) ≡ length (f x) + length (each f l) = length-append (f x) (each f l) in
      let b : suc (length l) * m ≡ length l * m + m = suc-mul (length l) m in
      omega arith

  -- where each gives one that passes or none
  pub count_each :
      (p : B → Bool) (q : A → Bool) {l : List A} → All (λ x. count p (f x) ≡ bump (q x) 0) l → count p (each f l) ≡ count q l
  count_each p q none = refl
  count_each p q (more {x = x} {l = l} e r) =
      let h : count p (each f l) ≡ count q l = count_each p q r in
      let a : count p (f x ++ each f l) ≡ count p (f x) + count p (each f l) = count_append p (f x) (each f l) in
      let b : bump (q x) (count q l) ≡ count q l + bump (q x) 0 = bump_plus (q x) (count q l) in
      omega arith
