-- What an example of folded faces says, as a test that computes; examples 5 to 8 of document 01 stand with the other examples, in the
-- crate `examples`. And two examples of our own. Assumes nothing.
use Rattle.std.specs.Prelude.{ℕ, ◌≡◌, Bool, List, [], ◌∷◌}
use Rattle.lists.specs.Same.{same_rings, Tells}
use Rattle.mesh.specs.Mesh.{Corner, Ring, missing}
use Rattle.removal.specs.Origins.{origins_of}
use Rattle.removal.specs.Folded.{removed}

-- whether removal leaves just these faces of a face, corner by corner
unfoldable pub leaves : Ring → List Ring → Bool
leaves f fs = same_rings (removed (f ∷ [])) fs

-- and the test says just that
abbrev pub LeavesIs : Type 0
LeavesIs = (f : Ring) (fs : List Ring) → Tells (leaves f fs) (removed (f ∷ []) ≡ fs)

-- corner k of a face, with its position: the texture index says which corner it is, and so does the mark
abbrev pub corner : ℕ → ℕ → Corner
corner p k = p ∷ k ∷ missing ∷ k ∷ []

-- an example of our own: (0,0,1,1,2) falls to a ring of four corners, which keeps the ring's rule and gives the corners 3, 4, 1,
-- where the quadrangle's rule would give 1, 3, 4
abbrev pub fallen_to_four : Bool
fallen_to_four =
    leaves
    (corner 0 0 ∷ corner 0 1 ∷ corner 1 2 ∷ corner 1 3 ∷ corner 2 4 ∷ [])
    ((corner 1 3 ∷ corner 2 4 ∷ corner 0 1 ∷ []) ∷ [])

-- and one with origins: behind a triangle and a quadrangle come the folded faces of the examples 5, 6 and 8. What is left of them are
-- triangles, which go before the quadrangle, and the numbers of their faces go with them
abbrev pub drawn : List Ring
drawn =
    (corner 0 0 ∷ corner 1 1 ∷ corner 2 2 ∷ [])
    ∷ (corner 0 0 ∷ corner 1 1 ∷ corner 2 2 ∷ corner 3 3 ∷ [])
    ∷ (corner 0 0 ∷ corner 1 1 ∷ corner 1 2 ∷ corner 2 3 ∷ [])
    ∷ (corner 0 0 ∷ corner 1 1 ∷ corner 0 2 ∷ corner 2 3 ∷ [])
    ∷ (corner 0 0 ∷ corner 1 1 ∷ corner 2 2 ∷ corner 0 3 ∷ corner 3 4 ∷ corner 4 5 ∷ [])
    ∷ []

abbrev pub DrawnFaces : Type 0
DrawnFaces = origins_of drawn ≡ 0 ∷ 2 ∷ 4 ∷ 4 ∷ 1 ∷ []
