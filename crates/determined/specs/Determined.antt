-- Determined results (document 01, 'What the reader of a contract may count on'): a contract determines the returned number and each
-- lent list afterwards, for accepted and refused input alike. Two results that it allows on one input are equal. Assumes nothing.
use Rattle.std.specs.Prelude.{ℕ, ◌≡◌, Bool, List, [], ◌∷◌, Float, ℤ}
use Rattle.mesh.specs.Mesh.{Mesh, mesh_of}
use Rattle.mesh.specs.Listed.{Listed}
use Rattle.mesh.specs.Table.{mesh_number}
use Rattle.mesh.specs.Face.{face_part}
use Rattle.faces.specs.Faces.{Grouped}
use Rattle.unused.specs.Compaction.{Compaction, Result as Lists}
use Rattle.inplace.specs.InPlace.{InPlace}
use Rattle.removal.specs.Folded.{Removal}
use Rattle.merging.specs.Merging.{PutTogether}
use Rattle.smoothed.specs.Refusals.{Result}
use Rattle.smoothing.specs.declared.Smoothed.{Smoothed}
use Rattle.smoothing.specs.Smoothing.{Smoothing}
use Rattle.edges.specs.Answers.{answer_of, judged, HemAnswer}
use Rattle.edges.specs.declared.Judged.{Judged}
use Rattle.ported.specs.Answers.{PortedAnswer}
use Rattle.house.specs.Answers.{HouseAnswer}
use Rattle.panels.specs.Contract.{PanelsAnswer}
use Rattle.panels.specs.declared.Answer.{Answer}
use Rattle.hemlist.specs.Answer.{HemLists, HemsListed}
use Rattle.hemlist.specs.declared.Listed.{Listed as HemCount}
use Rattle.reading.specs.Answer.{PanelRead}
use Rattle.scanned.specs.Answer.{ScanRead}
use Rattle.written.specs.Answer.{PanelWritten}
use Rattle.cleanfile.specs.Cleaning.{PanelCleaned}
use Rattle.sheet.specs.Sheet.{Printed}
use Rattle.hemfile.specs.HemFile.{HemsPrinted}

-- a call: what it is given, what it answers and leaves, and which of these its contract allows
pub record Call : Type 1 where
  pub Given : Type 0
  pub Result : Type 0
  pub Allows : Given → Result → Type 0

-- two results that the contract allows on one input are equal
abbrev pub Determined : Call → Type 0
Determined c = (g : c.Given) (r q : c.Result) → c.Allows g r → c.Allows g q → r ≡ q

-- of each call of a list
infixr 60 ◌and◌
pub data OfEach (P : Call → Type 0) : List Call → Type 1 where
  done : OfEach P []
  ◌and◌ : {c : Call} {cs : List Call} → P c → OfEach P cs → OfEach P (c ∷ cs)

-- a contract that says: the result is f of what is given
abbrev pub equals : {G R : Type 0} → (G → R) → Call
equals {G} {R} f = record { Given = G; Result = R; Allows = λ g r. r ≡ f g }

-- ---- the calls, each with the contract that its function cites: `Tied` holds them to the sources

-- `mesh::number`
abbrev pub number : Call
number = equals mesh_number

-- `mesh::face`: a mesh and the number of a face; what the part that is handed back holds
abbrev pub face : Call
face = equals (λ (g : Mesh × ℕ). face_part g.0 g.1)

-- `edges::shell_condition`
abbrev pub verdict_call : Call
verdict_call = record { Given = Mesh; Result = Judged; Allows = λ m r. answer_of r ≡ judged m }

-- a call that lends lists: what is given and the lists before; the answer and the lists afterwards
abbrev pub lending : {G L A : Type 0} → (G → L → L → A → Type 0) → Call
lending {G} {L} {A} Contract = record {
  Given = G × L;
  Result = A × L;
  Allows = λ g r. Contract g.0 g.1 r.1 r.0;
}

-- `faces::push`
abbrev pub push_call : Call
push_call = lending Grouped

-- `compaction::remove_unused_attrs`
abbrev pub compaction_call : Call
compaction_call = lending Compaction

-- the mesh whose corners and attributes these lists are
abbrev pub mesh_from : Lists → List ℕ → Mesh
mesh_from lists sizes = mesh_of lists.positions lists.textures lists.normals lists.corners sizes

-- `inplace::compact_in_place`: the sizes are given; the other lists of the mesh are changed where they stand, beside the number list
abbrev pub in_place_call : Call
in_place_call =
    lending
    (λ (sizes : List ℕ) (before afterwards : Lists × List ℕ).
    InPlace (mesh_from before.0 sizes) (mesh_from afterwards.0 sizes) before.1 afterwards.1)

-- `folded::remove_degenerate_faces`
abbrev pub removal_call : Call
removal_call = lending Removal

-- `merging::put_together_same_attrs` and `merging::put_together_by_cell`: a mesh and a tolerance are given
abbrev pub merging_call : Call
merging_call = lending (λ (g : Mesh × Float). PutTogether g.0 g.1)

-- `smoothing::loop_subdivision`: a mesh and the two lists of cosines are given
abbrev pub smoothing_call : Call
smoothing_call =
    lending
    (λ (g : Mesh × List Float × List Float) (before afterwards : Result) (answer : Smoothed).
    Smoothing g.0 g.1 g.2 before afterwards answer)

-- `edges::hem_edges`
abbrev pub hem_call : Call
hem_call = lending HemAnswer

-- `ported::extract_boundaries` and `house::house_wires`
abbrev pub ported_call : Call
ported_call = lending PortedAnswer

abbrev pub house_call : Call
house_call = lending HouseAnswer

-- `panels::components`: a mesh and the normals setting are given
abbrev pub panels_call : Call
panels_call = lending (λ (g : Mesh × Bool) (before afterwards : Listed) (answer : Answer). PanelsAnswer g.0 g.1 before afterwards answer)

-- `listing::list_hems`: a mesh and its triples are given, and three lists lent
abbrev pub list_call : Call
list_call = lending (λ (g : Mesh × List ℤ) (before afterwards : HemLists) (answer : HemCount). HemsListed g.0 g.1 before afterwards answer)

-- `panelfile::read_panel`: the bytes of a file are given, and the five lists of a mesh lent
abbrev pub read_call : Call
read_call = lending PanelRead

-- `scanfile::read_scan`: likewise
abbrev pub scan_call : Call
scan_call = lending ScanRead

-- `saving::write_panel`: a mesh is given, and the bytes of a file lent
abbrev pub write_call : Call
write_call = lending PanelWritten

-- `cleanfile::clean`: the bytes of a file are given
abbrev pub clean_call : Call
clean_call = lending PanelCleaned

-- `sheet::sheet`: likewise
abbrev pub sheet_call : Call
sheet_call = lending Printed

-- `hemfile::hem_sheet`: likewise
abbrev pub hem_sheet_call : Call
hem_sheet_call = lending HemsPrinted

abbrev pub calls : List Call
calls =
    number
    ∷ face
    ∷ push_call
    ∷ compaction_call
    ∷ in_place_call
    ∷ removal_call
    ∷ merging_call
    ∷ smoothing_call
    ∷ verdict_call
    ∷ hem_call
    ∷ ported_call
    ∷ house_call
    ∷ panels_call
    ∷ list_call
    ∷ read_call
    ∷ scan_call
    ∷ write_call
    ∷ clean_call
    ∷ sheet_call
    ∷ hem_sheet_call
    ∷ []

-- the statement: every call's results are determined
abbrev pub AllDetermined : Type 1
AllDetermined = OfEach Determined calls
