-- Examples 7 and 8 of document 01, told by places: a ring is its places 0, 1, .. with these positions as keys, and the pieces say which
-- corners they took. Assumes nothing.
use Rattle.std.specs.Prelude.{ℕ, Bool, List, [], ◌∷◌, length, get_or}
use Rattle.lists.specs.Lists.{span}
use Rattle.lists.specs.Same.{same_lists}
use Rattle.splitting.specs.Splitting.{pieces_by}

-- whether a ring with these positions is split into pieces with just these corners
unfoldable pub takes : List ℕ → List (List ℕ) → Bool
takes ps ts = same_lists (pieces_by (λ k. get_or ps k 0) (span 0 (length ps))) ts

-- (0,1,2,1,3): (1,3,0), its first corner the fourth
abbrev pub seventh : Bool
seventh = takes (0 ∷ 1 ∷ 2 ∷ 1 ∷ 3 ∷ []) ((3 ∷ 4 ∷ 0 ∷ []) ∷ [])

-- (0,1,2,0,3,4): (0,1,2),(0,3,4)
abbrev pub eighth : Bool
eighth = takes (0 ∷ 1 ∷ 2 ∷ 0 ∷ 3 ∷ 4 ∷ []) ((0 ∷ 1 ∷ 2 ∷ []) ∷ (3 ∷ 4 ∷ 5 ∷ []) ∷ [])
