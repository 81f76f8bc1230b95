-- The order of faces does not matter. Take two accepted meshes with the same faces, in another order, each face begun at any
-- corner of its ring: there is one verdict, the same hem edges, the same faces together in each panel, and the same house wires.
-- For all but the panels under the normals setting the same positions are enough. Assumes nothing.
use mathlib.Core.Path.{◌≡◌, ap, ◌∙◌}
use mathlib.Core.List.{List, []}
use Prim.Native.Nat.{◌<◌, ◌≤◌}
use native.Mathlib.Omega.{arith}
use lib.ListN.{length, get_or}
use Rattle.lists.proofs.Alike.{Alike}
use Rattle.mesh.specs.Limits.{least_ring}
use Rattle.mesh.specs.Mesh.{Mesh, Ring, position, rings, faces}
use Rattle.mesh.specs.Table.{mesh_number}
use Rattle.mesh.proofs.Faces.{length_rings, get_or-rings, length_face}
use Rattle.mesh.proofs.Accepted.{Accepted, accepted}
use Rattle.edges.specs.Edges.{edges_of, Irregular, verdict, hems}
use Rattle.edges.proofs.HemUses.{not_irregular}
use Rattle.edges.proofs.Reordered.{verdict_alike, hems_undirected, hems_alike}
use Rattle.ported.specs.Ported.{ported_wires}
use Rattle.order.specs.Same.{Same, Matching}
use Rattle.order.specs.Demand.{SameEdges, Demand3, OrderIsFree, by_position, SameByPosition, PositionsAreEnough}
use Rattle.order.proofs.Matched.{same_map, same_matched}
use Rattle.order.proofs.Counted.{edges_alike_by}
use Rattle.order.proofs.Ordered.{same_house}
use Rattle.order.proofs.Panelwise.{Full, panels_matched}
use Rattle.order.proofs.ByPosition.{panels_by_position}

-- what goes by edges goes by positions
edges_same : (m n : List Ring) → Same (by_position m) (by_position n) → SameEdges m n
edges_same m n s =
    let h : Alike (edges_of m) (edges_of n) = edges_alike_by m n s in
    let directed : (verdict (edges_of m) ≡ Irregular → ⊥) → hems (edges_of m) ≡ hems (edges_of n) = λ v. hems_alike h (not_irregular (edges_of m) v) in
    record {
      one_verdict = verdict_alike h;
      same_hems = hems_undirected h;
      same_directions = directed;
      same_wires = λ v. same_house s v;
      same_ported = λ v. ap ported_wires (directed v);
    }

-- of any faces that have a corner
pub same_positions : {m n : List Ring} → Full m → Full n → Same (by_position m) (by_position n) → SameByPosition m n
same_positions {m} {n} f g s =
    let r : Matching (by_position m) (by_position n) = same_matched s in
    record {
      edges = edges_same m n s;
      matching = r;
      same_panels = record {
        matched = λ a b la lb. panels_by_position m n r f g a b (r.to a) (r.to b) la (r.to_face a la) (r.turned a la) (r.turned b lb);
        whichever = panels_by_position m n r f g;
      };
    }

pub same_faces : {m n : List Ring} → Full m → Full n → Same m n → Demand3 m n
same_faces {m} {n} f g s =
    let r : Matching m n = same_matched s in
    record {
      edges = edges_same m n (same_map position s);
      matching = r;
      same_panels = λ k. record {
        matched = λ a b la lb. panels_matched k r f g a b (r.to a) (r.to b) la (r.to_face a la) (r.turned a la) (r.turned b lb);
        whichever = panels_matched k r f g;
      };
    }

-- a face of an accepted mesh has three corners or more
pub accepted_full : (m : Mesh) → mesh_number m ≡ 0 → Full (faces m)
unfolding faces
accepted_full m e x l =
    let a : Accepted m = accepted m e in
    let k : length (rings m.sizes m.corners) ≡ length m.sizes = length_rings m.sizes m.corners in
    let d : x < length m.sizes = omega arith in
    let c : length (get_or (rings m.sizes m.corners) x []) ≡ get_or m.sizes x 0 =
    ap length (get_or-rings m.sizes m.corners x d) ∙ length_face m.corners m.sizes a.sound x d in
    let t : least_ring ≤ get_or m.sizes x 0 = a.least x d in
    omega arith

-- of two accepted meshes
pub demand3 : OrderIsFree
demand3 m n a b s = same_faces (accepted_full m a) (accepted_full n b) s

pub positions_enough : PositionsAreEnough
positions_enough m n a b s = same_positions (accepted_full m a) (accepted_full n b) s
