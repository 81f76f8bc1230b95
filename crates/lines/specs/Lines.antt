-- The sheet (added), as document 01, 'The panel file and the sheet', has it: its lines, in their order, as bytes. Assumes nothing.
use Rattle.std.specs.Prelude.{ℕ, List, [], ◌∷◌, ◌++◌, map}
use Prim.Native.String.{String}
use Rattle.std.proofs.Math.Option.{Option, none, some}
use Rattle.lists.specs.Lists.{each}
use Rattle.edges.specs.Edges.{Verdict, Irregular, Regular, Oriented, Closed}
use Rattle.text.specs.Text.{bytes, decimal, line}

-- what is found in a mesh: how many positions, texture points, normals and faces it has, its verdict, how many panels, and its
-- house wires, or none where they are refused
pub record Found : Type 0 where
  pub positions : ℕ
  pub textures : ℕ
  pub normals : ℕ
  pub faces : ℕ
  pub verdict : Verdict
  pub panels : ℕ
  pub wires : Option (List (List ℕ))

-- first line: positions, texture points, normals, faces
unfoldable pub mesh_line : ℕ → ℕ → ℕ → ℕ → List ℕ
mesh_line p t n f = line "mesh" (map decimal (p ∷ t ∷ n ∷ f ∷ []))

-- then the verdict
abbrev pub verdict_name : Verdict → String
verdict_name Irregular = "Irregular"
verdict_name Regular = "Regular"
verdict_name Oriented = "Oriented"
verdict_name Closed = "Closed"

unfoldable pub verdict_line : Verdict → List ℕ
verdict_line v = line "verdict" (bytes (verdict_name v) ∷ [])

-- panels
unfoldable pub panels_line : ℕ → List ℕ
panels_line k = line "panels" (map decimal (k ∷ []))

-- one line per house wire; with 10 the one line `hems refused 10` stands there
unfoldable pub hem_line : List ℕ → List ℕ
hem_line w = line "hem" (map decimal w)

unfoldable pub hem_lines : Option (List (List ℕ)) → List ℕ
hem_lines (some ws) = each hem_line ws
hem_lines none = line "hems" (bytes "refused" ∷ decimal 10 ∷ [])

unfoldable pub sheet_text : Found → List ℕ
sheet_text f =
    mesh_line f.positions f.textures f.normals f.faces
    ++ verdict_line f.verdict
    ++ panels_line f.panels
    ++ hem_lines f.wires

-- room for every sheet, in bytes
abbrev pub sheet_room : ℕ
sheet_room = 65536

-- a refused file prints only `refused` and its number
unfoldable pub refusal : ℕ → List ℕ
refusal n = line "refused" (map decimal (n ∷ []))
