-- Hems as rings of points: what the cutter sees of them, whatever the numbers are. Assumes nothing.
use Rattle.std.specs.Prelude.{◌≡◌, true, List, map, ℕ, Float}
use Rattle.lists.specs.Lists.{has}
use Rattle.mesh.specs.Limits.{point_width}
use Rattle.mesh.specs.Mesh.{Mesh, faces}
use Rattle.unused.specs.Compaction.{entry_at}
use Rattle.turning.specs.Turning.{house_wires_of}
use Rattle.renumbered.specs.Renumbered.{positions_of}

-- the point of a position: its three coordinates
abbrev pub point_at : Mesh → ℕ → List Float
point_at m i = entry_at point_width m.positions i

-- the house wires of a mesh, each position by its point
abbrev pub hem_points : Mesh → List (List (List Float))
hem_points m = map (map (point_at m)) (house_wires_of (faces m))

-- each position that the one uses has its point in the other, under its new number there
abbrev pub SamePoints : (ℕ → ℕ) → Mesh → Mesh → Type 0
SamePoints g m n = (i : ℕ) → has i (positions_of (faces m)) ≡ true → point_at n (g i) ≡ point_at m i
