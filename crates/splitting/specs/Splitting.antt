-- A ring is split where two of its elements have equal keys: the rule of document 01, 'Folded faces', for a larger face, over any
-- elements that have a key. A face's corners have their positions as keys. Assumes nothing.
use Rattle.std.specs.Prelude.{ℕ, zero, suc, ◌+◌, ◌-◌, Bool, true, false, ◌||◌, List, [], ◌∷◌, ◌++◌, map, length, get_or, take, drop, ltb, leb, eqb}
use Rattle.lists.specs.Lists.{has, only}
use Rattle.lists.specs.Numbers.{seek}

-- whether a number stands in the list twice
abbrev pub twice : List ℕ → Bool
twice [] = false
twice (k ∷ ks) = has k ks || twice ks

-- in a list of keys: the first j after i with i's key, or the number of them where there is none; the first i that has such a j, or
-- the number of them where there is none
unfoldable pub mate_of : List ℕ → ℕ → ℕ
mate_of ks i = seek (λ j. eqb (get_or ks i 0) (get_or ks j 0)) (length ks - (i + 1)) (i + 1)

unfoldable pub first_mated : List ℕ → ℕ
first_mated ks = seek (λ i. ltb (mate_of ks i) (length ks)) (length ks) 0

-- the fewest elements of a piece
abbrev pub least_piece : ℕ
least_piece = 3

module _ {A : Type 0} where
  -- one ring is elements i to j-1; the other is j to the last, then 0 to i-1
  abbrev pub between : List A → ℕ → ℕ → List A
  between r i j = take (j - i) (drop i r)

  abbrev pub around : List A → ℕ → ℕ → List A
  around r i j = drop j r ++ take i r

  -- a piece has three elements or more
  abbrev pub is_piece : List A → Bool
  is_piece r = leb least_piece (length r)

module _ {A : Type 0} (key : A → ℕ) where
  -- two elements have equal keys
  unfoldable pub folded_by : List A → Bool
  folded_by r = twice (map key r)

  -- take the first i, and for it the first j after i, with equal keys
  abbrev pub first_by : List A → ℕ
  first_by r = first_mated (map key r)

  abbrev pub second_by : List A → ℕ
  second_by r = mate_of (map key r) (first_by r)

  -- each of the two rings is split again by the same rule, the first ring's pieces first. The first argument bounds the depth: the
  -- ring's length is enough.
  unfoldable pub split_by_in : ℕ → List A → List (List A)
  split_by_in zero r = r ∷ []
  split_by_in (suc n) r =
      elim (folded_by r) [
        | true ↦ split_by_in n (between r (first_by r) (second_by r)) ++ split_by_in n (around r (first_by r) (second_by r))
        | false ↦ r ∷ []
      ]

  unfoldable pub split_by : List A → List (List A)
  split_by r = split_by_in (length r) r

  -- pieces of fewer than three elements vanish
  unfoldable pub pieces_by : List A → List (List A)
  pieces_by r = only is_piece (split_by r)
