-- Plain list functions that the rules are written with: one sentence each. Their laws stand in proofs/. Assumes nothing.
use Rattle.std.specs.Prelude.{ℕ, zero, suc, ◌+◌, Bool, true, false, not, ◌&&◌, List, [], ◌∷◌, ◌++◌, eqb}
use Rattle.std.specs.List.{list_any, list_all}

module _ {A : Type 0} where
  -- a in front of l where the test holds, else l
  abbrev pub keep_if : Bool → A → List A → List A
  keep_if true a l = a ∷ l
  keep_if false a l = l

  -- those elements that pass the test, in their order
  abbrev pub only : (A → Bool) → List A → List A
  only p [] = []
  only p (a ∷ l) = keep_if (p a) a (only p l)

  -- whether some element passes the test; whether every one does: the library's words for what `any` and `all` of an iterator say
  abbrev pub some : (A → Bool) → List A → Bool
  some p l = list_any p l

  abbrev pub every : (A → Bool) → List A → Bool
  every p l = list_all p l

  -- the last element, alone; nothing of no elements
  abbrev pub last_of : List A → List A
  last_of [] = []
  last_of (a ∷ []) = a ∷ []
  last_of (a ∷ b ∷ l) = last_of (b ∷ l)

  -- the lists one after the other
  abbrev pub joined : List (List A) → List A
  joined [] = []
  joined (l ∷ ls) = l ++ joined ls

module _ {A B : Type 0} where
  -- what f gives at each element, one after the other
  abbrev pub each : (A → List B) → List A → List B
  each f [] = []
  each f (a ∷ l) = f a ++ each f l

-- one more where the test holds
abbrev pub bump : Bool → ℕ → ℕ
bump true n = suc n
bump false n = n

module _ {A : Type 0} where
  -- how many elements pass the test
  abbrev pub count : (A → Bool) → List A → ℕ
  count p [] = zero
  count p (a ∷ l) = bump (p a) (count p l)

-- whether x stands in the list
abbrev pub has : ℕ → List ℕ → Bool
has x l = some (eqb x) l

-- whether a and b stand in one of the lists
abbrev pub together : ℕ → ℕ → List (List ℕ) → Bool
together a b ps = some (λ (p : List ℕ). has a p && has b p) ps

-- the numbers other than x, in their order
abbrev pub others : ℕ → List ℕ → List ℕ
others x l = only (λ (y : ℕ). not (eqb x y)) l

-- the numbers a, a + 1, .., n of them
abbrev pub span : ℕ → ℕ → List ℕ
span a zero = []
span a (suc n) = a ∷ span (suc a) n

-- the sum of the numbers
abbrev pub sum : List ℕ → ℕ
sum [] = 0
sum (n ∷ l) = n + sum l
