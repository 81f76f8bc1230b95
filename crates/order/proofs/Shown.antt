-- The relation is not empty and is not everything: two accepted meshes that have the same faces, and two that have not, since an
-- edge stands in the one and not in the other. Assumes nothing.
use mathlib.Core.Path.{◌≡◌, refl}
use native.Mathlib.Omega.{arith}
use Rattle.mesh.specs.Mesh.{faces}
use Rattle.mesh.specs.Table.{over_limits, uneven, misfit, ungrouped, astray, shape_number, mesh_number}
use Rattle.edges.specs.Edges.{edges_of, same, runs}
use Rattle.order.specs.Same.{Same, none, face, swap, then}
use Rattle.order.specs.Pairs.{cloth, recut, turned_over}
use Rattle.order.proofs.Counted.{edges_alike}

pub all_accepted : (mesh_number cloth ≡ 0) × (mesh_number recut ≡ 0) × (mesh_number turned_over ≡ 0)
unfolding mesh_number shape_number over_limits uneven misfit ungrouped astray
all_accepted = (refl, refl, refl)

-- the two faces exchanged; then the first begun at its corner 1, the second at its corner 2
pub recut_same : Same (faces cloth) (faces recut)
unfolding faces
recut_same = then swap (face (1, refl) (face (2, refl) none))

-- 0 to 1 is an edge of the cloth, and no edge of the cloth with its first face turned over
pub turned_over_runs : (runs (0, 1) (edges_of (faces cloth)) ≡ 1) × (runs (0, 1) (edges_of (faces turned_over)) ≡ 0)
unfolding faces
turned_over_runs = (refl, refl)

pub turned_over_not_same : Same (faces cloth) (faces turned_over) → ⊥
turned_over_not_same s =
    let e : runs (0, 1) (edges_of (faces cloth)) ≡ runs (0, 1) (edges_of (faces turned_over)) = (edges_alike s).agree (same (0, 1)) in
    omega (arith, turned_over_runs)
