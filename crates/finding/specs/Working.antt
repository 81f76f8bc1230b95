-- The steps of the code, and no rules of document 01: what its functions hand to one another. Assumes nothing.
use Rattle.std.specs.Prelude.{ℕ, ◌≤◌, ◌≡◌, List, length}
use Rattle.mesh.specs.Limits.{entry_limit, corner_limit}
use Rattle.edges.specs.Runs.{Edged}
use Rattle.keys.specs.Columns.{Keyable}
use Rattle.lines.specs.Lines.{sheet_room}

-- what of an accepted mesh the search rests on, and room for the sheet
pub record Findable (p t n : ℕ) (corners sizes out : List ℕ) : Type 0 where
  pub edged : Edged corners sizes p
  pub keyable : Keyable corners sizes
  pub textures_few : t ≤ entry_limit
  pub normals_few : n ≤ entry_limit
  pub room : sheet_room ≤ length out

-- and lists of one number for each corner
pub record WireRoom (p t n : ℕ) (corners sizes flat lengths out : List ℕ) : Type 0 where
  pub findable : Findable p t n corners sizes out
  pub flat_long : length flat ≡ corner_limit
  pub lengths_long : length lengths ≡ corner_limit
