-- The lines of the hem sheet, as document 02, CR 13, has them: `hem`, panel, edges and length per hem, as bytes. Assumes nothing.
use Rattle.std.specs.Prelude.{ℕ, List, [], ◌∷◌, map, length, get_or}
use Rattle.lists.specs.Lists.{each, span}
use Rattle.text.specs.Text.{decimal, line}

unfoldable pub hem_line : ℕ → ℕ → ℕ → List ℕ
hem_line panel edges length = line "hem" (map decimal (panel ∷ edges ∷ length ∷ []))

-- hem k, from three lists: its panel, its number of edges and its length
abbrev pub line_at : List ℕ → List ℕ → List ℕ → ℕ → List ℕ
line_at panels edges lengths k = hem_line (get_or panels k 0) (get_or edges k 0) (get_or lengths k 0)

-- a line for each hem, one behind the other
unfoldable pub hem_lines : List ℕ → List ℕ → List ℕ → List ℕ
hem_lines panels edges lengths = each (line_at panels edges lengths) (span 0 (length panels))
