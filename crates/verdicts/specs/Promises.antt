-- What the rules of verdict and hem edges come to, for whoever reads a sheet. Proved in proofs/. Assumes nothing.
use Rattle.std.specs.Prelude.{◌≡◌, true, List, [], ◌/◌, ◌≤◌, length}
use Rattle.lists.specs.Lists.{some}
use Rattle.mesh.specs.Limits.{width}
use Rattle.mesh.specs.Mesh.{Mesh}
use Rattle.mesh.specs.Table.{mesh_number}
use Rattle.verdicts.specs.Edges.{Edge, same, verdict, Irregular, Regular, Closed, hems, mesh_edges_of}

-- where the verdict is neither Irregular nor Regular, it is Closed exactly where there are no hem edges
abbrev pub ClosedWithoutHems : Type 0
ClosedWithoutHems =
    (es : List Edge) → (verdict es ≡ Irregular → ⊥) → (verdict es ≡ Regular → ⊥)
    → (verdict es ≡ Closed → hems es ≡ []) × (hems es ≡ [] → verdict es ≡ Closed)

-- every hem edge is an edge of the faces
abbrev pub HemsUsed : Type 0
HemsUsed = (es : List Edge) (e : Edge) → some (same e) (hems es) ≡ true → some (same e) es ≡ true

-- and there are no more of them than corners
abbrev pub HemsWithin : Type 0
HemsWithin = (m : Mesh) → mesh_number m ≡ 0 → length (hems (mesh_edges_of m)) ≤ length m.corners / width
