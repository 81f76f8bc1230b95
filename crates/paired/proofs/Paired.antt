-- In any order of the numbers below n there are as many pairs: each pair is met from both its ends, and each number from itself.
-- Assumes nothing.
use mathlib.Core.Path.{◌≡◌, refl, sym, ap, ◌∙◌}
use mathlib.Core.Bool.{Bool, true, false}
use mathlib.Core.List.{List, [], ◌∷◌, map}
use Prim.Native.Nat.{ℕ, zero, suc, ◌+◌, ◌*◌}
use native.Mathlib.Omega.{arith}
use Rattle.lists.specs.Lists.{bump, count, sum}
use Rattle.lists.specs.Numbers.{count_below}
use Rattle.nearby.specs.Pairs.{pairs}
use Rattle.paired.specs.Counted.{pairs_in}

-- ---- sums over a list and over the numbers below n

-- what f comes to over the numbers below n
unfoldable sum_below : (ℕ → ℕ) → ℕ → ℕ
sum_below f zero = 0
sum_below f (suc n) = sum_below f n + f n

bump_is : (b : Bool) (k : ℕ) → bump b k ≡ bump b 0 + k
bump_is true k = omega arith
bump_is false k = omega arith

-- an element counted in each of the sums
below_bumped : (p : ℕ → Bool) (f : ℕ → ℕ) (n : ℕ) → sum_below (λ i. bump (p i) (f i)) n ≡ count_below p n + sum_below f n
unfolding sum_below count_below
below_bumped p f zero = refl
below_bumped p f (suc n) =
    let h : sum_below (λ i. bump (p i) (f i)) n ≡ count_below p n + sum_below f n = below_bumped p f n in
    let a : bump (p n) (f n) ≡ bump (p n) 0 + f n = bump_is (p n) (f n) in
    let b : bump (p n) (count_below p n) ≡ bump (p n) 0 + count_below p n = bump_is (p n) (count_below p n) in
    omega arith

list_bumped : (p : ℕ → Bool) (f : ℕ → ℕ) (l : List ℕ) → sum (map (λ x. bump (p x) (f x)) l) ≡ count p l + sum (map f l)
list_bumped p f [] = refl
list_bumped p f (x ∷ l) =
    let h : sum (map (λ x. bump (p x) (f x)) l) ≡ count p l + sum (map f l) = list_bumped p f l in
    let a : bump (p x) (f x) ≡ bump (p x) 0 + f x = bump_is (p x) (f x) in
    let b : bump (p x) (count p l) ≡ bump (p x) 0 + count p l = bump_is (p x) (count p l) in
    omega arith

none_below : (n : ℕ) → sum_below (λ i. 0) n ≡ 0
unfolding sum_below
none_below zero = refl
none_below (suc n) = let h : sum_below (λ i. 0) n ≡ 0 = none_below n in omega arith

-- the one way and the other
turned : (r : ℕ → ℕ → Bool) (n : ℕ) (l : List ℕ) → sum (map (λ x. count_below (r x) n) l) ≡ sum_below (λ i. count (λ x. r x i) l) n
turned r n [] = sym (none_below n)
turned r n (x ∷ l) =
    let h : sum (map (λ x. count_below (r x) n) l) ≡ sum_below (λ i. count (λ x. r x i) l) n = turned r n l in
    let a : sum_below (λ i. bump (r x i) (count (λ x. r x i) l)) n ≡ count_below (r x) n + sum_below (λ i. count (λ x. r x i) l) n = below_bumped (r x) (λ i. count (λ x. r x i) l) n in
    omega arith

module _ (r : ℕ → ℕ → Bool) (both : (i j : ℕ) → r i j ≡ r j i) (self : (i : ℕ) → r i i ≡ true) where
  -- those met from each of n numbers
  below_twice : (n : ℕ) → sum_below (λ i. count_below (r i) n) n ≡ n + 2 * pairs r n
  unfolding sum_below count_below pairs
  below_twice zero = refl
  below_twice (suc n) =
      let a : sum_below (λ i. bump (r i n) (count_below (r i) n)) n ≡ count_below (λ i. r i n) n + sum_below (λ i. count_below (r i) n) n =
      below_bumped (λ i. r i n) (λ i. count_below (r i) n) n in
      let b : count_below (r n) n ≡ count_below (λ i. r i n) n = ap (λ (p : ℕ → Bool). count_below p n) (λ x i. both n i x) in
      let c : bump (r n n) (count_below (r n) n) ≡ suc (count_below (r n) n) = ap (λ (t : Bool). bump t (count_below (r n) n)) (self n) in
      let d : sum_below (λ i. count_below (r i) n) n ≡ n + 2 * pairs r n = below_twice n in
      omega arith

  -- those met from each number of a list
  list_twice : (l : List ℕ) → sum (map (λ x. count (r x) l) l) ≡ count (λ x. true) l + 2 * pairs_in r l
  unfolding pairs_in
  list_twice [] = refl
  list_twice (x ∷ l) =
      let a : sum (map (λ y. bump (r y x) (count (r y) l)) l) ≡ count (λ y. r y x) l + sum (map (λ y. count (r y) l) l) = list_bumped (λ y. r y x) (λ y. count (r y) l) l in
      let b : count (r x) l ≡ count (λ y. r y x) l = ap (λ (p : ℕ → Bool). count p l) (λ z y. both x y z) in
      let c : bump (r x x) (count (r x) l) ≡ suc (count (r x) l) = ap (λ (t : Bool). bump t (count (r x) l)) (self x) in
      let d : sum (map (λ y. count (r y) l) l) ≡ count (λ y. true) l + 2 * pairs_in r l = list_twice l in
      omega arith

  all_below : (n : ℕ) → count_below (λ i. true) n ≡ n
  unfolding count_below
  all_below zero = refl
  all_below (suc n) = ap suc (all_below n)

  pub same_pairs : (n : ℕ) (l : List ℕ) → ((q : ℕ → Bool) → count q l ≡ count_below q n) → pairs_in r l ≡ pairs r n
  same_pairs n l h =
      let a : sum (map (λ x. count (r x) l) l) ≡ count (λ x. true) l + 2 * pairs_in r l = list_twice l in
      let b : sum (map (λ x. count (r x) l) l) ≡ sum (map (λ x. count_below (r x) n) l) = ap (λ (f : ℕ → ℕ). sum (map f l)) (λ z x. h (r x) z) in
      let c : sum_below (λ i. count (λ x. r x i) l) n ≡ sum_below (λ i. count_below (λ x. r x i) n) n = ap (λ (f : ℕ → ℕ). sum_below f n) (λ z i. h (λ x. r x i) z) in
      let d : sum_below (λ i. count_below (λ x. r x i) n) n ≡ sum_below (λ i. count_below (r i) n) n =
      ap (λ (f : ℕ → ℕ → Bool). sum_below (λ i. count_below (f i) n) n) (λ z i x. both x i z) in
      let e : count (λ x. true) l ≡ n = h (λ x. true) ∙ all_below n in
      omega (arith, turned r n l, below_twice n)
