-- Verdict and hem edges, by counting over the list of all edges of a mesh, as document 01, 'Edges, verdict and wires', has them. What an
-- edge is stands in mesh/specs/Edges.antt and is passed on here. Assumes nothing.
use Rattle.std.specs.Prelude.{Bool, false, cond, not, ◌&&◌, ◌||◌, List, [], ◌∷◌, map, ℕ, zero, suc, leb, ltb, eqb}
use Rattle.lists.specs.Lists.{count, some, only}
use Rattle.mesh.specs.Mesh.{Mesh, faces}
pub use Rattle.mesh.specs.Edges.{run_edges, ring_edges, mesh_edges, Edge, edges_of, same, flip}
unfoldable pub use Rattle.mesh.specs.Edges.{key}

-- how often the edge k, without direction, is used; how often it is used from d's start to d's end
abbrev pub uses : Edge → List Edge → ℕ
uses k es = count (λ e. same k (key e)) es

abbrev pub runs : Edge → List Edge → ℕ
runs d es = count (same d) es

-- the four verdicts
pub data Verdict : Type 0 where
  Irregular Regular Oriented Closed : Verdict

-- some edge is used three times or more; twice in the same direction; exactly once
abbrev pub thrice : List Edge → Bool
thrice es = some (λ e. leb 3 (uses (key e) es)) es

abbrev pub alike : List Edge → Bool
alike es = some (λ e. leb 2 (runs e es)) es

abbrev pub once : List Edge → Bool
once es = some (λ e. eqb 1 (uses (key e) es)) es

-- Irregular if some edge is used three times or more; else Regular if some edge is used twice in the same direction; else
-- Closed if no edge is used exactly once; else Oriented
unfoldable pub verdict : List Edge → Verdict
verdict es = cond (thrice es) Irregular (cond (alike es) Regular (cond (once es) Oriented Closed))

-- ascending order: by the first number, then by the second
abbrev pub before : Edge → Edge → Bool
before d e = ltb d.0 e.0 || (eqb d.0 e.0 && ltb d.1 e.1)

-- k into an ascending list, unless it is there
abbrev pub insert : Edge → List Edge → List Edge
insert k [] = k ∷ []
insert k (x ∷ l) = cond (before k x) (k ∷ x ∷ l) (cond (same k x) (x ∷ l) (x ∷ insert k l))

-- the edges without direction, each once, in ascending order (lower, higher)
abbrev pub keys : List Edge → List Edge
keys [] = []
keys (e ∷ es) = insert (key e) (keys es)

abbrev pub odd : ℕ → Bool
odd zero = false
odd (suc n) = not (odd n)

-- the last use of the edge k; d where there is none
abbrev pub last_or : Edge → Edge → List Edge → Edge
last_or k d [] = d
last_or k d (e ∷ es) = last_or k (cond (same k (key e)) e d) es

-- hem edges: those used an odd number of times, with the direction of their last use
abbrev pub hem_keys : List Edge → List Edge
hem_keys es = only (λ k. odd (uses k es)) (keys es)

unfoldable pub hems : List Edge → List Edge
hems es = map (λ k. last_or k k es) (hem_keys es)

-- the edges of a mesh
abbrev pub mesh_edges_of : Mesh → List Edge
mesh_edges_of m = edges_of (faces m)

-- where an edge starts and where it ends
abbrev pub start : Edge → ℕ
start e = e.0

abbrev pub end : Edge → ℕ
end e = e.1
