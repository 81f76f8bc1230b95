-- The same faces in another order, each begun at any corner of its ring. Assumes nothing.
use Rattle.std.specs.Prelude.{◌≡◌, List, [], ◌∷◌, ◌++◌, ℕ, ◌<◌, length, get_or, take, drop}

module _ {A : Type 0} where
  -- a ring begun at its corner k: from there to the last, then from the first to the one before
  abbrev pub begun : ℕ → List A → List A
  begun k f = drop k f ++ take k f

  -- g is f, begun at some corner
  abbrev pub Turned : List A → List A → Type 0
  Turned f g = (k : ℕ) × (g ≡ begun k f)

  -- the same faces, put in another order, each begun at any corner: two faces that stand side by side are exchanged, and each face
  -- is begun elsewhere, as often as one likes
  pub data Same : List (List A) → List (List A) → Type 0 where
    none : Same [] []
    face : {f g : List A} {m n : List (List A)} → Turned f g → Same m n → Same (f ∷ m) (g ∷ n)
    swap : {f g : List A} {m : List (List A)} → Same (f ∷ g ∷ m) (g ∷ f ∷ m)
    then : {l m n : List (List A)} → Same l m → Same m n → Same l n

  -- a one-to-one matching of face numbers: face `to k` of n is face k of m, begun at some corner. Equal faces are matched too, each
  -- to one of its own.
  pub record Matching (m n : List (List A)) : Type 0 where
    pub to : ℕ → ℕ
    pub back : ℕ → ℕ
    pub to_face : (k : ℕ) → k < length m → to k < length n
    pub back_face : (k : ℕ) → k < length n → back k < length m
    pub back_to : (k : ℕ) → k < length m → back (to k) ≡ k
    pub to_back : (k : ℕ) → k < length n → to (back k) ≡ k
    pub turned : (k : ℕ) → k < length m → Turned (get_or m k []) (get_or n (to k) [])
