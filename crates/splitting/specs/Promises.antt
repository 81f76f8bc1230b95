-- What the split promises, whatever the elements and the key are. Assumes nothing.
use Rattle.std.specs.Prelude.{ℕ, ◌≡◌, Bool, true, List, map, eqb}
use Rattle.lists.specs.Lists.{every, count, joined}
use Rattle.splitting.specs.Splitting.{split_by, pieces_by}

-- two keys agree on which elements are equal, among those that pass a test
abbrev pub Agree : (A : Type 0) → (A → ℕ) → (A → ℕ) → (A → Bool) → Type 0
Agree A k k' p = (a b : A) → p a ≡ true → p b ≡ true → eqb (k a) (k b) ≡ eqb (k' a) (k' b)

-- no element is lost and none stands in two rings of the split: each element of the ring stands there as often as in the ring
abbrev pub NoneLost : Type 1
NoneLost = (A : Type 0) (key : A → ℕ) (p : A → Bool) (r : List A) → count p (joined (split_by key r)) ≡ count p r

-- the pieces of changed elements are the changed pieces, where the key is read through the change
abbrev pub MapCommutes : Type 1
MapCommutes =
    (A B : Type 0) (f : A → B) (key : B → ℕ) (r : List A) → pieces_by key (map f r) ≡ map (map f) (pieces_by (λ a. key (f a)) r)

-- what the keys are does not matter, only which are equal
abbrev pub OnlyEquality : Type 1
OnlyEquality =
    (A : Type 0) (k k' : A → ℕ) (p : A → Bool) → Agree A k k' p → (r : List A) → every p r ≡ true → pieces_by k r ≡ pieces_by k' r
