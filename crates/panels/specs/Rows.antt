-- The steps of the code, and no rules of document 01: what the parts of the call rest on, and the rows that they use. Assumes nothing.
use Rattle.std.specs.Prelude.{◌≡◌, List, ℕ, ◌/◌, ◌≤◌, length}
use Rattle.mesh.specs.Limits.{width}
use Rattle.keys.specs.Columns.{Keyable}
use Rattle.searching.specs.Joins.{join_numbers}

-- an accepted mesh, and room for its panels: at most one for each face
pub record PanelRoom (cs s flat lengths : List ℕ) : Type 0 where
  pub keyable : Keyable cs s
  pub faces_room : length s ≤ length flat
  pub panels_room : length s ≤ length lengths

-- room for all joins
pub record JoinRoom (cs s joins : List ℕ) : Type 0 where
  pub keyable : Keyable cs s
  pub room : join_numbers ≤ length joins

-- and two rows of one number for each use
pub record JoinRows (cs s firsts faces joins : List ℕ) : Type 0 where
  pub keyable : Keyable cs s
  pub firsts_long : length firsts ≡ length cs / width
  pub faces_long : length faces ≡ length cs / width
  pub room : join_numbers ≤ length joins
