-- What the code rests on and what its numbers are, and no rules of document 02. Assumes nothing.
use Rattle.std.specs.Prelude.{◌≡◌, not, List, [], ◌∷◌, ℕ, ◌*◌, ◌≤◌, length, ℤ}
use Rattle.mesh.specs.Limits.{point_width}
use Rattle.mesh.specs.Mesh.{Ring}
use Rattle.mesh.specs.Table.{when, first_of}
use Rattle.edges.specs.Edges.{edges_of, verdict}
use Rattle.edges.specs.Runs.{Edged}
use Rattle.columns.specs.Columns.{Keyable}
use Rattle.house.specs.Answers.{wired}
use Rattle.hemlist.specs.HemList.{beyond_reach}
use Rattle.hemtext.specs.HemText.{hem_room, printed}

-- an accepted mesh with n positions, a triple for each, and room for every sheet
pub record Textable (corners sizes : List ℕ) (n : ℕ) (cs : List ℤ) (out : List ℕ) : Type 0 where
  pub edged : Edged corners sizes n
  pub keyable : Keyable corners sizes
  pub long : length cs ≡ point_width * n
  pub room : hem_room ≤ length out

-- the last numbers: 19, then 10
abbrev pub reach_rows : List ℤ → List Ring → List ℕ
reach_rows cs fs = when (beyond_reach cs) 19 ∷ when (not (wired (verdict (edges_of fs)))) 10 ∷ []

-- the sheet by them
unfoldable pub text_by : List ℤ → List Ring → List ℕ
text_by cs fs = printed (first_of (reach_rows cs fs)) cs fs
