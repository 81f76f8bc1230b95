-- Smoothing by Loop's method as far as faces go, as document 02, 'CR 4', and the Rust's `loop_subdivision` have it: edges by first
-- use, and four triangles for one. Where the positions move to stands in Positions.antt. Assumes nothing.
use Rattle.std.specs.Prelude.{ℕ, suc, ◌+◌, ◌≡◌, Bool, true, false, cond, not, ◌&&◌, ◌||◌, List, [], ◌∷◌, map, length, get_or, ltb, eqb}
use Rattle.lists.specs.Lists.{only, some, every, each, has, span}
use Rattle.mesh.specs.Mesh.{Corner, Ring, position, missing}
use Rattle.verdicts.specs.Edges.{Edge, same, key}
use Rattle.folding.specs.Folding.{folded}

-- the position of corner i of a face
abbrev pub at : Ring → ℕ → ℕ
at f i = position (get_or f i [])

-- a triangle's edges, without direction, in the Rust's order: that across from its first corner, its second, its third
abbrev pub sides : Ring → List Edge
sides f = key (at f 1, at f 2) ∷ key (at f 2, at f 0) ∷ key (at f 0, at f 1) ∷ []

-- each edge once, in the order of first use
abbrev pub first_uses : List Edge → List Edge
first_uses [] = []
first_uses (k ∷ ks) = k ∷ only (λ j. not (same k j)) (first_uses ks)

unfoldable pub edges_by_use : List Ring → List Edge
edges_by_use fs = first_uses (each sides fs)

-- where an edge stands in a list, counted from 0
unfoldable pub place : List Edge → Edge → ℕ
place [] k = 0
place (j ∷ ks) k = cond (same k j) 0 (suc (place ks k))

-- the new position on an edge: behind the n old positions, by the edge's number
unfoldable pub middle : ℕ → List Edge → Edge → ℕ
middle n ks e = n + place ks (key e)

-- an inner corner carries no texture, no normal and no mark
abbrev pub bare : ℕ → Corner
bare p = p ∷ missing ∷ missing ∷ 0 ∷ []

-- so many triangles for one
abbrev pub fold : ℕ
fold = 4

-- four triangles for one, in the Rust's order; e0 stands across from v0, e1 from v1, e2 from v2
abbrev pub quartered : Corner → Corner → Corner → Corner → Corner → Corner → List Ring
quartered v0 v1 v2 e0 e1 e2 =
    (v0 ∷ e2 ∷ e1 ∷ []) ∷ (e0 ∷ v2 ∷ e1 ∷ []) ∷ (e0 ∷ e2 ∷ v1 ∷ []) ∷ (e0 ∷ e1 ∷ e2 ∷ []) ∷ []

abbrev pub four : ℕ → List Edge → Ring → List Ring
four n ks f =
    quartered
    (get_or f 0 [])
    (get_or f 1 [])
    (get_or f 2 [])
    (bare (middle n ks (at f 1, at f 2)))
    (bare (middle n ks (at f 2, at f 0)))
    (bare (middle n ks (at f 0, at f 1)))

-- the faces that smoothing gives of faces over n positions, and how many positions there are then
unfoldable pub smoothed_faces : ℕ → List Ring → List Ring
smoothed_faces n fs = each (four n (edges_by_use fs)) fs

abbrev pub smoothed_count : ℕ → List Ring → ℕ
smoothed_count n fs = n + length (edges_by_use fs)

-- ---- what it rests on

-- triangles, none folded, over n positions
pub record Smoothable (n : ℕ) (fs : List Ring) : Type 0 where
  pub triangles : every (λ f. eqb (length f) 3) fs ≡ true
  pub unfolded : some folded fs ≡ false
  pub within : every (λ f. every (λ c. ltb (position c) n) f) fs ≡ true

-- whether every position of f is one of g
abbrev pub covered : Ring → Ring → Bool
covered f g = every (λ p. has p (map position g)) (map position f)

-- whether some two faces have the same positions
unfoldable pub repeated : List Ring → Bool
repeated [] = false
repeated (f ∷ fs) = some (λ g. covered f g && covered g f) fs || repeated fs

-- whether p is the position of some corner; whether each of n positions is
abbrev pub used_in : List Ring → ℕ → Bool
used_in fs p = some (λ f. has p (map position f)) fs

unfoldable pub all_used : ℕ → List Ring → Bool
all_used n fs = every (used_in fs) (span 0 n)
