-- Two exports of one cover: the positions may be renumbered one-to-one, texture points and normals numbered anew, and the faces put in
-- another order, each begun at any corner of its ring. What the rules find in both. Assumes nothing.
use Rattle.std.specs.Prelude.{◌≡◌, Bool, false, List, map, ℕ}
use Rattle.lists.specs.Lists.{count}
use Rattle.mesh.specs.Mesh.{Mesh, Ring, faces}
use Rattle.mesh.specs.Table.{mesh_number}
use Rattle.unused.specs.Compaction.{compacted}
use Rattle.edges.specs.Edges.{Edge, edges_of, Irregular, verdict, hems}
use Rattle.turning.specs.Turning.{house_wires_of}
use Rattle.turning.specs.Promise.{Fit}
use Rattle.order.specs.Same.{Same, Matching}
use Rattle.order.specs.Demand.{by_position, SameTogether}
use Rattle.renumbered.specs.Renumbered.{positions_of, OneToOne, moved}
use Rattle.renumbered.specs.Points.{hem_points, SamePoints}

-- the rings of positions, each position under its new number
abbrev pub renumbered_by : (ℕ → ℕ) → List Ring → List (List ℕ)
renumbered_by g fs = map (map g) (by_position fs)

-- g is the new number of a position
pub record OneCover (g : ℕ → ℕ) (m n : List Ring) : Type 0 where
  pub one_to_one : OneToOne g (positions_of m)
  pub same_positions : Same (renumbered_by g m) (by_position n)

pub record CoverKept (g : ℕ → ℕ) (m n : List Ring) : Type 0 where
  -- one verdict
  pub one_verdict : verdict (edges_of m) ≡ verdict (edges_of n)
  -- unless it is Irregular the same hem edges, each in its direction, under their new numbers: as many of them pass any test
  pub same_hems :
      (verdict (edges_of m) ≡ Irregular → ⊥)
      → (test : Edge → Bool) → count test (map (moved g) (hems (edges_of m))) ≡ count test (hems (edges_of n))
  -- where it is Oriented or Closed the same house wires under their new numbers, each begun somewhere, in some order
  pub same_wires : Fit (verdict (edges_of m)) → Same (map (map g) (house_wires_of m)) (house_wires_of n)
  -- the faces are matched by their positions, and without the normals setting the same faces are together in each panel
  pub matching : Matching (renumbered_by g m) (by_position n)
  pub same_panels : SameTogether matching false m n

-- two accepted meshes
abbrev pub CoversAgree : Type 0
CoversAgree =
    (g : ℕ → ℕ) (m n : Mesh) → mesh_number m ≡ 0 → mesh_number n ≡ 0 → OneCover g (faces m) (faces n) → CoverKept g (faces m) (faces n)

-- where each position has the same point in both, and the verdict is Oriented or Closed, the hems are the same rings of points, each begun
-- somewhere, in some order; and so after compaction, as a sheet prints them
pub record SameHemPoints (m n : Mesh) : Type 0 where
  pub as_they_are : Same (hem_points m) (hem_points n)
  pub as_printed : Same (hem_points (compacted m)) (hem_points (compacted n))

abbrev pub HemsOfOneCover : Type 0
HemsOfOneCover =
    (g : ℕ → ℕ) (m n : Mesh) → mesh_number m ≡ 0 → mesh_number n ≡ 0 → OneCover g (faces m) (faces n) → SamePoints g m n
    → Fit (verdict (edges_of (faces m))) → SameHemPoints m n
