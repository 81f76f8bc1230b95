-- Which corners of a face its pieces took, as change request 3 asks: with every piece the places of its corners in the face's ring,
-- counted from 0, in the piece's own order. Assumes nothing.
use Rattle.std.specs.Prelude.{ℕ, true, false, List, [], ◌∷◌, length, get_or, eqb}
use Rattle.lists.specs.Lists.{span}
use Rattle.mesh.specs.Mesh.{Ring, position}
use Rattle.splitting.specs.Splitting.{pieces_by}
use Rattle.folding.specs.Folding.{folded, fold_of}
use Rattle.folding.specs.declared.Fold.{Fold}
use Rattle.folding.specs.declared.Fold.TheVariants.{Goes, WithoutQ1, WithoutQ3, Stays}

-- a triangle that stays has all three
unfoldable pub triangle_places : Ring → List (List ℕ)
triangle_places t = elim (folded t) [ true ↦ [] | false ↦ (0 ∷ 1 ∷ 2 ∷ []) ∷ [] ]

-- what is left of a quadrangle q0..q3 is nothing, or (q0,q2,q3), or (q0,q1,q2), or all four
abbrev pub left_places : Fold → List (List ℕ)
left_places Goes = []
left_places WithoutQ1 = (0 ∷ 2 ∷ 3 ∷ []) ∷ []
left_places WithoutQ3 = (0 ∷ 1 ∷ 2 ∷ []) ∷ []
left_places Stays = (0 ∷ 1 ∷ 2 ∷ 3 ∷ []) ∷ []

unfoldable pub quadrangle_places : Ring → List (List ℕ)
quadrangle_places q = left_places (fold_of q)

-- the places of a larger face are split by the positions of the corners there
abbrev pub position_in : Ring → ℕ → ℕ
position_in r k = position (get_or r k [])

abbrev pub ring_places : Ring → List (List ℕ)
ring_places r = pieces_by (position_in r) (span 0 (length r))

-- the places of a face's pieces, by its size
unfoldable pub places : Ring → List (List ℕ)
places r =
    elim (eqb (length r) 3) [
      | true ↦ triangle_places r
      | false ↦ elim (eqb (length r) 4) [ true ↦ quadrangle_places r | false ↦ ring_places r ]
    ]
