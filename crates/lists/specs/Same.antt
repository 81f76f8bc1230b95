-- Whether two lists are the same, as a test that computes: one definition over the element, and what it means. Assumes nothing.
use Rattle.std.specs.Prelude.{ℕ, ◌≡◌, Bool, true, false, ◌&&◌, List, [], ◌∷◌, eqb}

module _ {A : Type 0} where
  -- whether two lists have the same elements in the same places, where the test says which elements are the same
  abbrev pub same_by : (A → A → Bool) → List A → List A → Bool
  same_by t [] [] = true
  same_by t [] (y ∷ k) = false
  same_by t (x ∷ l) [] = false
  same_by t (x ∷ l) (y ∷ k) = t x y && same_by t l k

-- lists of numbers, lists of such lists, and so on
abbrev pub same_numbers : List ℕ → List ℕ → Bool
same_numbers l k = same_by eqb l k

abbrev pub same_lists : List (List ℕ) → List (List ℕ) → Bool
same_lists l k = same_by same_numbers l k

abbrev pub same_rings : List (List (List ℕ)) → List (List (List ℕ)) → Bool
same_rings l k = same_by same_lists l k

-- a test says just when something holds
abbrev pub Tells : Bool → Type 0 → Type 0
Tells b P = (b ≡ true → P) × (P → b ≡ true)

-- a test of two things is equality: it is true exactly where they are equal
abbrev pub IsEquality : {A : Type 0} → (A → A → Bool) → Type 0
IsEquality {A} t = (x y : A) → Tells (t x y) (x ≡ y)

-- if the elements are compared by equality, so are the lists
abbrev pub SameIsEquality : Type 1
SameIsEquality = (A : Type 0) (t : A → A → Bool) → IsEquality t → IsEquality (same_by t)
