-- The hem sheet of a mesh, as document 02, CR 13, has it: `hem`, panel, edges and length per hem, or `refused` and the number; and room for
-- every such sheet. Assumes nothing.
use Rattle.std.specs.Prelude.{ℕ, zero, suc, ◌*◌, List, ℤ}
use Rattle.mesh.specs.Limits.{corner_limit}
use Rattle.mesh.specs.Mesh.{Ring}
use Rattle.lines.specs.Lines.{refusal}
use Rattle.hemlist.specs.HemList.{point_of, hem_panels, hem_edges, hem_lengths}
use Rattle.hemlines.specs.HemLines.{hem_lines}

-- the hems of the faces fs, whose positions have the coordinates cs. A closed cover has none: its sheet is empty
unfoldable pub hem_text : List ℤ → List Ring → List ℕ
hem_text cs fs = hem_lines (hem_panels fs) (hem_edges fs) (hem_lengths (point_of cs) fs)

-- by the number: a refused file prints only `refused` and its number
unfoldable pub printed : ℕ → List ℤ → List Ring → List ℕ
printed zero cs fs = hem_text cs fs
printed (suc n) cs fs = refusal (suc n)

-- room for every sheet, in bytes: at most one hem per corner, and of a line `hem`, a panel and a number of edges of at most four digits each,
-- a length of at most eleven, three spaces and the line feed
abbrev pub line_room : ℕ
line_room = 26

abbrev pub hem_room : ℕ
hem_room = line_room * corner_limit
