-- Folded faces, face by face, as document 01, 'Folded faces', has them: what a triangle, a quadrangle and a larger face become.
-- How a ring is split stands in splitting's specs/Splitting.antt. Assumes nothing.
use Rattle.std.specs.Prelude.{ℕ, Bool, true, false, ◌&&◌, ◌||◌, List, [], ◌∷◌, length, get_or, eqb}
use Rattle.mesh.specs.Mesh.{Ring, position}
use Rattle.splitting.specs.Splitting.{folded_by, pieces_by}
use Rattle.folding.specs.declared.Fold.{Fold}
use Rattle.folding.specs.declared.Fold.TheVariants.{Goes, WithoutQ1, WithoutQ3, Stays}

-- a face is folded where two of its corners have equal positions
abbrev pub folded : Ring → Bool
folded r = folded_by position r

-- a folded triangle goes
unfoldable pub triangle_pieces : Ring → List Ring
triangle_pieces t = elim (folded t) [ true ↦ [] | false ↦ t ∷ [] ]

-- whether corners i and j have equal positions
abbrev pub equal : Ring → ℕ → ℕ → Bool
equal r i j = eqb (position (get_or r i [])) (position (get_or r j []))

-- a quadrangle q0..q3 goes if q0=q2, or q1=q3, or q0=q1 and q2=q3, or q1=q2 and q3=q0; otherwise, with q0=q1 or q1=q2 it
-- becomes (q0,q2,q3); otherwise, with q2=q3 or q3=q0 it becomes (q0,q1,q2); otherwise it stays
abbrev pub fold_by : Bool → Bool → Bool → Fold
fold_by true first second = Goes
fold_by false true second = WithoutQ1
fold_by false false true = WithoutQ3
fold_by false false false = Stays

unfoldable pub fold_of : Ring → Fold
fold_of q =
    fold_by
    (equal q 0 2 || equal q 1 3 || (equal q 0 1 && equal q 2 3) || (equal q 1 2 && equal q 3 0))
    (equal q 0 1 || equal q 1 2)
    (equal q 2 3 || equal q 3 0)

-- the triangles (q0,q2,q3) and (q0,q1,q2)
abbrev pub without_q1 : Ring → Ring
without_q1 q = get_or q 0 [] ∷ get_or q 2 [] ∷ get_or q 3 [] ∷ []

abbrev pub without_q3 : Ring → Ring
without_q3 q = get_or q 0 [] ∷ get_or q 1 [] ∷ get_or q 2 [] ∷ []

-- what each answer on a quadrangle leaves of it
abbrev pub left : Fold → Ring → List Ring
left Goes q = []
left WithoutQ1 q = without_q1 q ∷ []
left WithoutQ3 q = without_q3 q ∷ []
left Stays q = q ∷ []

unfoldable pub quadrangle_pieces : Ring → List Ring
quadrangle_pieces q = left (fold_of q) q

-- a larger face is split by the positions of its corners; pieces of fewer than three corners vanish
abbrev pub ring_pieces : Ring → List Ring
ring_pieces r = pieces_by position r

-- the pieces of a face, by its size
unfoldable pub pieces : Ring → List Ring
pieces r =
    elim (eqb (length r) 3) [
      | true ↦ triangle_pieces r
      | false ↦ elim (eqb (length r) 4) [ true ↦ quadrangle_pieces r | false ↦ ring_pieces r ]
    ]
