-- What compaction keeps: it renumbers positions, texture points and normals one-to-one and leaves the faces in their order. Assumes
-- nothing.
use Rattle.std.specs.Prelude.{◌≡◌, Bool, map, ℕ}
use Rattle.lists.specs.Lists.{count}
use Rattle.mesh.specs.Mesh.{Mesh, faces}
use Rattle.mesh.specs.Table.{mesh_number}
use Rattle.unused.specs.Compaction.{renumber, used_positions, compacted}
use Rattle.edges.specs.Edges.{Edge, edges_of, verdict, hems}
use Rattle.panels.specs.Panels.{panels}
use Rattle.turning.specs.Turning.{house_wires_of}
use Rattle.turning.specs.Promise.{Fit}
use Rattle.order.specs.Same.{Same}
use Rattle.renumbered.specs.Renumbered.{moved}
use Rattle.renumbered.specs.Points.{hem_points}

-- the new number of a position
abbrev pub new_number : Mesh → ℕ → ℕ
new_number m i = renumber (used_positions m) i

pub record KeptByCompaction (m : Mesh) : Type 0 where
  pub one_verdict : verdict (edges_of (faces (compacted m))) ≡ verdict (edges_of (faces m))
  -- the hem edges, with new numbers, each in its direction
  pub same_hems :
      (test : Edge → Bool) → count test (hems (edges_of (faces (compacted m)))) ≡ count test (map (moved (new_number m)) (hems (edges_of (faces m))))
  -- the house wires, with new numbers, each begun somewhere, in some order
  pub same_wires :
      Fit (verdict (edges_of (faces m))) → Same (map (map (new_number m)) (house_wires_of (faces m))) (house_wires_of (faces (compacted m)))
  -- which are the same rings of points
  pub same_points : Fit (verdict (edges_of (faces m))) → Same (hem_points m) (hem_points (compacted m))
  -- the very list of panels, under either normals setting
  pub same_panels : (normals : Bool) → panels normals (faces (compacted m)) ≡ panels normals (faces m)

abbrev pub CompactionKeeps : Type 0
CompactionKeeps = (m : Mesh) → mesh_number m ≡ 0 → KeptByCompaction m
