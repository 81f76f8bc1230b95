-- What the places of a face's pieces promise, for every face. Assumes nothing.
use Rattle.std.specs.Prelude.{ℕ, ◌≤◌, ◌≡◌, true, false, [], ◌∷◌, map, length, get_or, ltb, eqb}
use Rattle.lists.specs.Lists.{every, count, joined, span}
use Rattle.mesh.specs.Limits.{least_ring}
use Rattle.mesh.specs.Mesh.{Ring}
use Rattle.folding.specs.Folding.{folded, pieces}
use Rattle.folding.specs.Places.{places}

-- a place stands for its whole corner: the pieces of document 01 are the ring, read at the places
abbrev pub PiecesAtPlaces : Type 0
PiecesAtPlaces = (r : Ring) → pieces r ≡ map (map (λ k. get_or r k [])) (places r)

-- at every place the ring has a corner
abbrev pub PlacesWithin : Type 0
PlacesWithin = (r : Ring) → every (every (λ k. ltb k (length r))) (places r) ≡ true

-- no corner is taken twice, by one piece or by two
abbrev pub TakenOnce : Type 0
TakenOnce = (r : Ring) (k : ℕ) → count (eqb k) (joined (places r)) ≤ 1

-- a face that is not folded is taken whole, in its order, as its only piece
abbrev pub TakenWhole : Type 0
TakenWhole = (r : Ring) → least_ring ≤ length r → folded r ≡ false → places r ≡ span 0 (length r) ∷ []
