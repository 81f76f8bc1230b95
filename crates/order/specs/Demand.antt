-- What two meshes with the same faces have in common, in the words of the rules: verdict, hem edges, house wires and panels.
-- Assumes nothing.
use Rattle.std.specs.Prelude.{◌≡◌, Bool, false, List, [], map, ℕ, ◌<◌, length, get_or}
use Rattle.lists.specs.Lists.{together}
use Rattle.mesh.specs.Mesh.{Mesh, Ring, position, faces}
use Rattle.mesh.specs.Table.{mesh_number}
use Rattle.edges.specs.Edges.{edges_of, key, Irregular, verdict, hems}
use Rattle.turning.specs.Turning.{house_wires_of}
use Rattle.turning.specs.Promise.{Fit}
use Rattle.ported.specs.Ported.{ported_wires}
use Rattle.panels.specs.Panels.{panels}
use Rattle.order.specs.Same.{Turned, Same, Matching}

-- what goes by the edges of the faces
pub record SameEdges (m n : List Ring) : Type 0 where
  -- one verdict
  pub one_verdict : verdict (edges_of m) ≡ verdict (edges_of n)
  -- the same hem edges, without direction, in the same ascending order
  pub same_hems : map key (hems (edges_of m)) ≡ map key (hems (edges_of n))
  -- hem edges keep their direction unless the verdict is Irregular
  pub same_directions : (verdict (edges_of m) ≡ Irregular → ⊥) → hems (edges_of m) ≡ hems (edges_of n)
  -- where it is Oriented or Closed the house wires are the same, in the same order
  pub same_wires : Fit (verdict (edges_of m)) → house_wires_of m ≡ house_wires_of n
  -- ported wires are the same unless it is Irregular
  pub same_ported : (verdict (edges_of m) ≡ Irregular → ⊥) → ported_wires (hems (edges_of m)) ≡ ported_wires (hems (edges_of n))

-- the same faces are together in each panel of m and of n. A face is known by its ring: fs are the rings of m, gs those of n, and
-- they are matched one to one
pub record SameTogether {A : Type 0} {fs gs : List (List A)} (match : Matching fs gs) (normals : Bool) (m n : List Ring) : Type 0 where
  pub matched :
      (a b : ℕ) → a < length fs → b < length fs
      → together a b (panels normals m) ≡ together (match.to a) (match.to b) (panels normals n)
  -- whichever of equal faces are taken for each other
  pub whichever :
      (a b c d : ℕ) → a < length fs → c < length gs
      → Turned (get_or fs a []) (get_or gs c [])
      → Turned (get_or fs b []) (get_or gs d [])
      → together a b (panels normals m) ≡ together c d (panels normals n)

-- ---- the demand: the same faces, corner by corner

pub record Demand3 (m n : List Ring) : Type 0 where
  pub edges : SameEdges m n
  -- the faces of the one are matched to those of the other, one to one
  pub matching : Matching m n
  -- and under either normals setting the same faces are together in each panel
  pub same_panels : (normals : Bool) → SameTogether matching normals m n

-- two accepted meshes with the same faces, in another order, each face begun at any corner of its ring
abbrev pub OrderIsFree : Type 0
OrderIsFree = (m n : Mesh) → mesh_number m ≡ 0 → mesh_number n ≡ 0 → Same (faces m) (faces n) → Demand3 (faces m) (faces n)

-- ---- the same positions: exporters may number texture points and normals anew

-- the rings of positions
abbrev pub by_position : List Ring → List (List ℕ)
by_position fs = map (map position) fs

-- everything but the panels under the normals setting
pub record SameByPosition (m n : List Ring) : Type 0 where
  pub edges : SameEdges m n
  -- the faces are matched by their positions
  pub matching : Matching (by_position m) (by_position n)
  -- and without the normals setting the same faces are together in each panel
  pub same_panels : SameTogether matching false m n

-- two accepted meshes whose faces have the same positions, in another order, each face begun at any corner of its ring
abbrev pub PositionsAreEnough : Type 0
PositionsAreEnough =
    (m n : Mesh) → mesh_number m ≡ 0 → mesh_number n ≡ 0 → Same (by_position (faces m)) (by_position (faces n)) → SameByPosition (faces m) (faces n)
