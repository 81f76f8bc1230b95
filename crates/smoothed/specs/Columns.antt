-- What the code of smoothing hands from crate to crate, and no rules: the rules' edges, neighbours and sums as rows of numbers, an
-- entry for each use, edge or position. Assumes nothing.
use Rattle.std.specs.Prelude.{◌≡◌, List, map, ℕ, ◌*◌, ◌/◌, ◌%◌, ◌≤◌, ◌<◌, length, get_or, replicate, Float}
use Rattle.lists.specs.Lists.{each, span}
use Rattle.mesh.specs.Limits.{width, least_ring, entry_limit, corner_numbers}
use Rattle.mesh.specs.Mesh.{Ring, rings, missing}
use Rattle.verdicts.specs.Edges.{Edge}
use Rattle.smoothed.specs.Smoothed.{sides, edges_by_use, place}
use Rattle.smoothed.specs.Around.{wings, first_wing, second_wing, neighbours, along_hem}
use Rattle.smoothed.specs.Positions.{axes, pull}

-- the faces of a flat list of corners that has triangles alone
unfoldable pub triangles : List ℕ → List Ring
triangles cs = rings (replicate (length cs / (width * least_ring)) least_ring) cs

-- whole triangles within the limits, over n positions
pub record Triangular (cs : List ℕ) (n : ℕ) : Type 0 where
  pub whole : length cs % (width * least_ring) ≡ 0
  pub few : length cs ≤ corner_numbers
  pub entries : n ≤ entry_limit
  pub below : (k : ℕ) → k < length cs / width → get_or cs (width * k) 0 < n

-- ---- an entry for each use: the number of its edge

unfoldable pub edge_numbers : List Ring → List ℕ
edge_numbers fs = map (place (edges_by_use fs)) (each sides fs)

-- ---- an entry for each edge, by first use: its lower and higher position, its first and last wing, and how many it has

unfoldable pub edge_lowers : List Ring → List ℕ
edge_lowers fs = map (λ (k : Edge). k.0) (edges_by_use fs)

unfoldable pub edge_highers : List Ring → List ℕ
edge_highers fs = map (λ (k : Edge). k.1) (edges_by_use fs)

unfoldable pub edge_firsts : List Ring → List ℕ
edge_firsts fs = map (first_wing fs) (edges_by_use fs)

unfoldable pub edge_seconds : List Ring → List ℕ
edge_seconds fs = map (second_wing fs) (edges_by_use fs)

unfoldable pub edge_wings : List Ring → List ℕ
edge_wings fs = map (λ (k : Edge). length (wings fs k)) (edges_by_use fs)

-- ---- an entry for each of n positions: how many neighbours it has; its first and its second neighbour along a hem, or missing; and
-- the three sums of how far its neighbours lie from it

unfoldable pub degrees : List Ring → ℕ → List ℕ
degrees fs n = map (λ v. length (neighbours fs v)) (span 0 n)

unfoldable pub hem_neighbours : ℕ → List Ring → ℕ → List ℕ
hem_neighbours i fs n = map (λ v. get_or (along_hem fs v) i missing) (span 0 n)

unfoldable pub pulls : List Ring → List Float → ℕ → List Float
pulls fs ps n = each (λ v. axes (λ a. pull fs ps a v)) (span 0 n)
