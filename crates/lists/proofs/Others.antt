-- Numbers that pass a test, and the numbers other than one: which stand there, and that each stands at most once. Assumes nothing.
use mathlib.Core.Path.{◌≡◌, refl, sym, ap, ◌∙◌}
use mathlib.Core.Bool.{Bool, true, false, not, ◌&&◌}
use mathlib.Core.List.{List, [], ◌∷◌}
use Prim.Native.Nat.{ℕ, suc, ◌+◌, ◌≤◌}
use native.Mathlib.Omega.{arith}
use lib.ListN.{length}
use lib.Dec.{ltb, eqb}
use borrow.Author.Tests.{ltb-true, eqb-true, eqb-false, eq-eqb, ne_eqb}
use Rattle.lists.specs.Lists.{every, only, keep_if, bump, count, has, others}
use Rattle.lists.proofs.Bools.{by_cases, true_false, and_both, and_left, and_right, and_false_right}
use Rattle.lists.proofs.Counting.{bump_plus, pos, some_count, count_none}
use Rattle.lists.proofs.Members.{Once, free, once_free, in_head, in_tail}

-- ---- tests of equality

pub eqb_self : (x : ℕ) → eqb x x ≡ true
eqb_self x = eq-eqb x x refl

-- either way round
pub eqb_flip : (x y : ℕ) → eqb x y ≡ eqb y x
eqb_flip x y =
    by_cases
    (eqb x y)
    (λ e. e ∙ sym (eq-eqb y x (sym (eqb-true x y e))))
    (λ e. e ∙ sym (ne_eqb y x (λ q. eqb-false x y e (sym q))))

-- ---- those that pass a test

-- a number stands among those that pass where it passes and was there
pub has_only : (p : ℕ → Bool) (x : ℕ) (l : List ℕ) → has x (only p l) ≡ (p x && has x l)
has_only p x [] = sym (and_false_right (p x) false refl)
has_only p x (y ∷ l) =
    by_cases
    (eqb x y)
    (λ e.
    let q : p y ≡ p x = ap p (sym (eqb-true x y e)) in
    by_cases (p x) (λ t. rw (q, t, e)) (λ t. rw (q, t) (has_only p x l ∙ rw t)))
    (λ e. by_cases (p y) (λ t. rw (t, e) (has_only p x l)) (λ t. rw (t, e) (has_only p x l)))

-- what all have, one that stands there has; and what each that stands there has, all have
pub every_has : (p : ℕ → Bool) (x : ℕ) (l : List ℕ) → every p l ≡ true → has x l ≡ true → p x ≡ true
every_has p x [] h k = true_false (sym k)
every_has p x (y ∷ l) h k =
    by_cases
    (eqb x y)
    (λ e. ap p (eqb-true x y e) ∙ and_left (p y) (every p l) h)
    (λ e. every_has p x l (and_right (p y) (every p l) h) (rw e at k))

pub has_every : (p : ℕ → Bool) (l : List ℕ) → ((x : ℕ) → has x l ≡ true → p x ≡ true) → every p l ≡ true
has_every p [] f = refl
has_every p (y ∷ l) f =
    and_both (p y) (every p l) (f y (in_head y l)) (has_every p l (λ x h. f x (in_tail x y l h)))

-- ---- each at most once

-- the first stands nowhere behind, and those behind it each at most once
pub once_head : (y : ℕ) (l : List ℕ) → Once (y ∷ l) → has y l ≡ false
once_head y l o =
    let c : bump (eqb y y) (count (eqb y) l) ≤ 1 = o y in
    let s : suc (count (eqb y) l) ≤ 1 = rw (eqb_self y) at c in
    let z : count (eqb y) l ≡ 0 = omega arith in
    some_count (eqb y) l ∙ ap pos z

pub once_tail : (y : ℕ) (l : List ℕ) → Once (y ∷ l) → Once l
once_tail y l o x =
    let c : count (eqb x) (y ∷ l) ≤ 1 = o x in let a : _ = bump_plus (eqb x y) (count (eqb x) l) in omega arith

-- those that pass a test
pub once_only : (p : ℕ → Bool) (l : List ℕ) → Once l → Once (only p l)
once_only p l o x = let c : count (eqb x) l ≤ 1 = o x in let a : count (eqb x) (only p l) ≤ count (eqb x) l = fewer l in omega arith
  where
    keep : (b : Bool) (y m n : ℕ) → m ≤ n → bump b m ≤ bump b n
    keep true y m n h = omega arith
    keep false y m n h = h

    kept : (b : Bool) (y : ℕ) (k : List ℕ) → count (eqb x) (keep_if b y k) ≤ bump (eqb x y) (count (eqb x) k)
    kept true y k = omega arith
    kept false y k = let a : _ = bump_plus (eqb x y) (count (eqb x) k) in omega arith

    fewer : (k : List ℕ) → count (eqb x) (only p k) ≤ count (eqb x) k
    fewer [] = omega arith
    fewer (y ∷ k) =
        let a : count (eqb x) (keep_if (p y) y (only p k)) ≤ bump (eqb x y) (count (eqb x) (only p k)) = kept (p y) y (only p k) in
        let b : bump (eqb x y) (count (eqb x) (only p k)) ≤ bump (eqb x y) (count (eqb x) k) =
        keep (eqb x y) y (count (eqb x) (only p k)) (count (eqb x) k) (fewer k) in
        omega arith

-- one in front of the others
pub once_others : (x : ℕ) (l : List ℕ) → Once l → Once (x ∷ others x l)
once_others x l o y =
    let a : count (eqb y) (others x l) ≤ 1 = once_only (λ (z : ℕ). not (eqb x z)) l o y in
    by_cases
    (eqb y x)
    (λ e.
    let n : has y (others x l) ≡ false = has_only (λ (z : ℕ). not (eqb x z)) y l ∙ rw (eqb_flip x y, e) in
    let z : count (eqb y) (others x l) ≡ 0 = count_none (eqb y) (others x l) n in
    rw e (omega arith))
    (λ e. rw e a)

-- numbers below n, each at most once, are at most n
pub once_few : (n : ℕ) (l : List ℕ) → Once l → every (λ (x : ℕ). ltb x n) l ≡ true → length l ≤ n
once_few n l o h =
    let e : length l + free n l ≡ n = once_free n l o (λ x i. ltb-true x n (every_has (λ (y : ℕ). ltb y n) x l h i)) in omega arith
