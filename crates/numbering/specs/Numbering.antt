-- The edges of triangles as rows of numbers: what the call asks and what it gives. What the rows hold stands in crate smoothed,
-- specs/Columns.antt. Assumes nothing.
use Rattle.std.specs.Prelude.{◌≡◌, List, ℕ, ◌/◌, length}
use Rattle.std.proofs.lemmas.List.Edits.{sets}
use Rattle.mesh.specs.Limits.{width, entry_limit}
use Rattle.mesh.specs.Mesh.{Ring}
use Rattle.smoothed.specs.Smoothed.{edges_by_use}
use Rattle.smoothed.specs.Columns.{Triangular, edge_numbers, edge_lowers, edge_highers, edge_firsts, edge_seconds, edge_wings}

-- the rows that are lent, at one moment: for each use the number of its edge; and for each edge its lower and its higher position, its
-- first and its last wing, and how many wings it has
pub record Rows : Type 0 where
  pub numbers : List ℕ
  pub lowers : List ℕ
  pub highers : List ℕ
  pub firsts : List ℕ
  pub seconds : List ℕ
  pub wings : List ℕ

abbrev pub rows : List ℕ → List ℕ → List ℕ → List ℕ → List ℕ → List ℕ → Rows
rows n l h f s w = record { numbers = n; lowers = l; highers = h; firsts = f; seconds = s; wings = w }

-- u numbers in each
pub record Long (r : Rows) (u : ℕ) : Type 0 where
  pub numbers : length r.numbers ≡ u
  pub lowers : length r.lowers ≡ u
  pub highers : length r.highers ≡ u
  pub firsts : length r.firsts ≡ u
  pub seconds : length r.seconds ≡ u
  pub wings : length r.wings ≡ u

-- triangles within the limits, and one number for each corner in each row
pub record Numberable (cs : List ℕ) (r : Rows) : Type 0 where
  pub triangular : Triangular cs entry_limit
  pub long : Long r (length cs / width)

-- so many edges as k; the rows are written, and what stands behind the last edge stays as it was
pub record Numbered (fs : List Ring) (before after : Rows) (k : ℕ) : Type 0 where
  pub count : k ≡ length (edges_by_use fs)
  pub numbers : after.numbers ≡ edge_numbers fs
  pub lowers : after.lowers ≡ sets before.lowers 0 (edge_lowers fs)
  pub highers : after.highers ≡ sets before.highers 0 (edge_highers fs)
  pub firsts : after.firsts ≡ sets before.firsts 0 (edge_firsts fs)
  pub seconds : after.seconds ≡ sets before.seconds 0 (edge_seconds fs)
  pub wings : after.wings ≡ sets before.wings 0 (edge_wings fs)
