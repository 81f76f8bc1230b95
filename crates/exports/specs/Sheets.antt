-- The sheets of two files, from the files' bytes. Where the faces that are left after removal are the same, put in another order, each
-- begun at any corner of its ring, the sheets begin with the same three lines. The hems that follow have other numbers where the first
-- uses come in another order; they are the same rings of points. Assumes nothing.
use Rattle.std.specs.Prelude.{◌≡◌, false, List, ◌++◌, ℕ, ◌≤◌, length, take}
use Rattle.std.proofs.Math.Option.{Option}
use Rattle.lists.specs.Lists.{some}
use Rattle.mesh.specs.Mesh.{faces}
use Rattle.folding.specs.Folding.{folded}
use Rattle.removal.specs.Folded.{unfolded_mesh}
use Rattle.turning.specs.Turning.{house_wires_of}
use Rattle.turning.specs.Promise.{Fit}
use Rattle.order.specs.Same.{Same}
use Rattle.order.specs.Demand.{by_position}
use Rattle.reading.specs.Reading.{panel_mesh}
use Rattle.lines.specs.Lines.{Found, sheet_room, mesh_line, verdict_line, panels_line, hem_lines}
use Rattle.cleaning.specs.Cleaning.{cleaned}
use Rattle.finding.specs.Found.{found_in}
use Rattle.sheet.specs.Sheet.{file_number, Printed}
use Rattle.sheet.specs.declared.Answer.{Answer}
use Rattle.renumbered.specs.Points.{hem_points, SamePoints}
use Rattle.exports.specs.Covers.{OneCover}

-- ---- a call of `sheet::sheet` on a file's bytes: what was lent, with its room, what is there afterwards and what was answered, any of
-- it that the contract allows

pub record SheetCall (file : List ℕ) : Type 0 where
  pub out : List ℕ
  pub out' : List ℕ
  pub answer : Answer
  pub contract : Printed file out out' answer
  pub room : sheet_room ≤ length out

-- what is written at the front of the list
abbrev pub written : {file : List ℕ} → SheetCall file → List ℕ
written r = take r.answer.length r.out'

-- ---- what one sheet says, and what two have in common

-- what is found in a file after cleaning
abbrev pub found : List ℕ → Found
found file = found_in (cleaned (panel_mesh file))

-- the first three lines: mesh, verdict, panels
abbrev pub first_lines : Found → List ℕ
first_lines f = mesh_line f.positions f.textures f.normals f.faces ++ verdict_line f.verdict ++ panels_line f.panels

-- a call on a file that is read answers 0 and writes them, and then the hems
pub record SheetSays {file : List ℕ} (r : SheetCall file) : Type 0 where
  pub done : r.answer.number ≡ 0
  pub says : written r ≡ first_lines (found file) ++ hem_lines (found file).wires

abbrev pub SheetsSay : Type 0
SheetsSay = (file : List ℕ) → file_number file ≡ 0 → (r : SheetCall file) → SheetSays r

-- both calls answer 0, and both sheets begin with the first three lines of the one; after them stand the hems of each
pub record SameFirstLines {a b : List ℕ} (r : SheetCall a) (q : SheetCall b) : Type 0 where
  pub done : (r.answer.number ≡ 0) × (q.answer.number ≡ 0)
  pub of_the_one : written r ≡ first_lines (found a) ++ hem_lines (found a).wires
  pub of_the_other : written q ≡ first_lines (found a) ++ hem_lines (found b).wires

-- two files that are read, whose faces after removal are the same
abbrev pub FirstLinesAreFree : Type 0
FirstLinesAreFree =
    (a b : List ℕ) → file_number a ≡ 0 → file_number b ≡ 0
    → Same (faces (unfolded_mesh (panel_mesh a))) (faces (unfolded_mesh (panel_mesh b)))
    → (r : SheetCall a) (q : SheetCall b) → SameFirstLines r q

-- where no face is folded it is enough that the files have the same faces
abbrev pub FirstLinesOfUnfolded : Type 0
FirstLinesOfUnfolded =
    (a b : List ℕ) → file_number a ≡ 0 → file_number b ≡ 0
    → Same (faces (panel_mesh a)) (faces (panel_mesh b)) → some folded (faces (panel_mesh a)) ≡ false
    → (r : SheetCall a) (q : SheetCall b) → SameFirstLines r q

-- ---- exporters that number anew: how many texture points and normals are left may differ, and nothing else of the three lines

pub record SameButAttributes (a b : Found) : Type 0 where
  pub same_positions : a.positions ≡ b.positions
  pub same_faces : a.faces ≡ b.faces
  pub same_verdict : a.verdict ≡ b.verdict
  pub same_panels : a.panels ≡ b.panels

-- two files that are read, without folded faces: exports of one cover, whose positions g renumbers one-to-one
abbrev pub SheetsOfOneCover : Type 0
SheetsOfOneCover =
    (g : ℕ → ℕ) (a b : List ℕ) → file_number a ≡ 0 → file_number b ≡ 0
    → OneCover g (faces (panel_mesh a)) (faces (panel_mesh b)) → some folded (faces (panel_mesh a)) ≡ false
    → SameButAttributes (found a) (found b)

-- or whose positions keep their numbers
abbrev pub PositionsAreEnoughForSheets : Type 0
PositionsAreEnoughForSheets =
    (a b : List ℕ) → file_number a ≡ 0 → file_number b ≡ 0
    → Same (by_position (faces (panel_mesh a))) (by_position (faces (panel_mesh b))) → some folded (faces (panel_mesh a)) ≡ false
    → SameButAttributes (found a) (found b)

-- ---- the hems, as rings of points

-- where the verdict is Oriented or Closed the hems that a sheet prints are the house wires of what is left after cleaning: `hem_points` of
-- that mesh are their points
abbrev pub HemsArePrinted : Type 0
HemsArePrinted =
    (file : List ℕ) → Fit (found file).verdict → (found file).wires ≡ Option.some (house_wires_of (faces (cleaned (panel_mesh file))))

-- two files that are read, whose faces after removal are the same and whose positions have the same points: where the verdict is Oriented
-- or Closed, what is left after cleaning has the same hems, each begun somewhere, in some order
abbrev pub HemsAreFree : Type 0
HemsAreFree =
    (a b : List ℕ) → file_number a ≡ 0 → file_number b ≡ 0
    → Same (faces (unfolded_mesh (panel_mesh a))) (faces (unfolded_mesh (panel_mesh b)))
    → (panel_mesh a).positions ≡ (panel_mesh b).positions
    → Fit (found a).verdict → Same (hem_points (cleaned (panel_mesh a))) (hem_points (cleaned (panel_mesh b)))

-- the same of two exports of one cover, without folded faces, where g keeps the points
abbrev pub HemsOfExports : Type 0
HemsOfExports =
    (g : ℕ → ℕ) (a b : List ℕ) → file_number a ≡ 0 → file_number b ≡ 0
    → OneCover g (faces (panel_mesh a)) (faces (panel_mesh b)) → some folded (faces (panel_mesh a)) ≡ false
    → SamePoints g (panel_mesh a) (panel_mesh b)
    → Fit (found a).verdict → Same (hem_points (cleaned (panel_mesh a))) (hem_points (cleaned (panel_mesh b)))
