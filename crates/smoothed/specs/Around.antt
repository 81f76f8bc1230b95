-- What stands around a position and beside an edge, as the Rust's `add_vertex_edge` and `VertexBoundaryCondition::new` have it: the
-- order of neighbours, an edge's wings, and whether a position is at a corner, on the boundary or inside. Assumes nothing.
use Rattle.std.specs.Prelude.{Bool, cond, ◌||◌, List, [], ◌∷◌, map, ℕ, ◌-◌, length, get_or, eqb}
use Rattle.lists.specs.Lists.{only, each}
use Rattle.mesh.specs.Mesh.{Ring}
use Rattle.verdicts.specs.Edges.{Edge, same, key}
use Rattle.smoothed.specs.Smoothed.{at, edges_by_use}

-- a triangle's edges in the Rust's order, each with the position across from it, its wing there
abbrev pub Use : Type 0
Use = Edge × ℕ

abbrev pub uses_of : Ring → List Use
uses_of f =
    (key (at f 1, at f 2), at f 0) ∷ (key (at f 2, at f 0), at f 1) ∷ (key (at f 0, at f 1), at f 2) ∷ []

-- the wings of an edge, in the order of its uses; the Rust keeps the first, and of the others the last
unfoldable pub wings : List Ring → Edge → List ℕ
wings fs k = map (λ (u : Use). u.1) (only (λ (u : Use). same k u.0) (each uses_of fs))

abbrev pub first_wing : List Ring → Edge → ℕ
first_wing fs k = get_or (wings fs k) 0 0

abbrev pub second_wing : List Ring → Edge → ℕ
second_wing fs k = get_or (wings fs k) (length (wings fs k) - 1) 0

-- whether an edge has no second wing
abbrev pub single : List Ring → Edge → Bool
single fs k = eqb 1 (length (wings fs k))

-- whether v is an end of an edge, and its other end then
abbrev pub ends : ℕ → Edge → Bool
ends v k = eqb v k.0 || eqb v k.1

abbrev pub across : ℕ → Edge → ℕ
across v k = cond (eqb v k.0) k.1 k.0

-- the neighbours of a position, in the order in which the edges to them are first used
unfoldable pub neighbours : List Ring → ℕ → List ℕ
neighbours fs v = map (across v) (only (ends v) (edges_by_use fs))

-- those along an edge with no second wing
unfoldable pub along_hem : List Ring → ℕ → List ℕ
along_hem fs v = only (λ w. single fs (key (v, w))) (neighbours fs v)

-- a position at a corner does not move; one on the boundary goes by the first two such neighbours; one inside goes by all its
-- neighbours
pub data Condition : Type 0 where
  Corner : Condition
  Boundary : ℕ → ℕ → Condition
  Inner : Condition

abbrev pub condition_of : ℕ → List ℕ → Condition
condition_of n [] = Inner
condition_of n (x ∷ []) = Inner
condition_of n (x ∷ y ∷ hs) = cond (eqb n 2) Corner (Boundary x y)

unfoldable pub condition : List Ring → ℕ → Condition
condition fs v = condition_of (length (neighbours fs v)) (along_hem fs v)
