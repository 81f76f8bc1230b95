-- The list of the calls is no retelling: each contract, as the source of its function has it, says what the list says. The kit hands
-- out a contract as `Post`: lifetimes, arguments, answer, arguments afterwards. A weaker `ensures` in any of the twenty-one sources is
-- refused here. Assumes nothing.
use Rattle.std.specs.Prelude.{ℕ, ◌≡◌, List, Float, ℤ}
use Rattle.std.specs.Borrow.{Bor, MutBor}
use Rattle.mesh.specs.Mesh.{Mesh, mesh_of}
use Rattle.mesh.specs.Listed.{Listed, listed_of}
use Rattle.std.specs.Prelude.{Result as Answer}
use Rattle.mesh.specs.declared.Entries.{Entries}
use Rattle.mesh.specs.declared.refusal.Refusal.{Refusal}
use Rattle.mesh.specs.Seen.{seen}
use Rattle.faces.specs.Faces.{FaceLists, faces_of, pushed_of}
use Rattle.unused.specs.Compaction as compaction
use Rattle.removal.specs.Folded as removal
use Rattle.smoothed.specs.Refusals as smoothed
use Rattle.edges.specs.Answers.{HemLists, hems_in}
use Rattle.hemlist.specs.Answer as hemlist
use Rattle.inplace.specs.Promises.{AsOrdinary}
use Rattle.determined.specs.Determined.{Call, number, face, push_call, compaction_call, mesh_from, in_place_call, removal_call, merging_call}
use Rattle.determined.specs.Determined.{smoothing_call, verdict_call}
use Rattle.determined.specs.Determined.{hem_call, ported_call, house_call, panels_call, list_call, read_call, scan_call, write_call, clean_call, sheet_call, hem_sheet_call}
use Rattle.mesh.proofs.number.Reads as mesh-number
use Rattle.mesh.proofs.face.Reads as mesh-face
use Rattle.faces.proofs.push.Reads as push
use Rattle.compaction.proofs.remove_unused_attrs.Reads as remove-unused-attrs
use Rattle.inplace.proofs.compact_in_place.Reads as compact-in-place
use Rattle.folded.proofs.remove_degenerate_faces.Reads as remove-degenerate-faces
use Rattle.merging.proofs.put_together_same_attrs.Reads as put-together-same-attrs
use Rattle.merging.proofs.put_together_by_cell.Reads as put-together-by-cell
use Rattle.smoothing.proofs.loop_subdivision.Reads as loop-subdivision
use Rattle.edges.proofs.shell_condition.Reads as shell-condition
use Rattle.edges.proofs.hem_edges.Reads as hem_edges_is
use Rattle.ported.proofs.extract_boundaries.Reads as extract-boundaries
use Rattle.house.proofs.house_wires.Reads as house_wires_is
use Rattle.panels.proofs.components.Reads as components
use Rattle.listing.proofs.list_hems.Reads as list-hems
use Rattle.panelfile.proofs.read_panel.Reads as read-panel
use Rattle.scanfile.proofs.read_scan.Reads as read-scan
use Rattle.saving.proofs.write_panel.Reads as write-panel
use Rattle.sheet.proofs.sheet.Reads as sheet
use Rattle.cleanfile.proofs.clean.Reads as clean
use Rattle.hemfile.proofs.hem_sheet.Reads as hem-sheet

-- ---- arguments, as a contract has them: one behind the other

-- a list lent to be read, and the arguments behind it; and one lent to be written
abbrev pub Lends : Type 0 → Type 0 → Type 0
Lends X Rest = Bor (List X) × Rest

abbrev pub LendsMut : Type 0 → Type 0 → Type 0
LendsMut X Rest = MutBor (List X) × Rest

-- the five lists of a mesh, and the arguments behind them: to be read, or to be written; and in place, where the sizes alone are read
abbrev pub LendsMesh : Type 0 → Type 0
LendsMesh Rest = Lends Float (Lends Float (Lends Float (Lends ℕ (Lends ℕ Rest))))

abbrev pub LendsMeshMut : Type 0 → Type 0
LendsMeshMut Rest = LendsMut Float (LendsMut Float (LendsMut Float (LendsMut ℕ (LendsMut ℕ Rest))))

abbrev pub LendsInPlace : Type 0 → Type 0
LendsInPlace Rest = LendsMut Float (LendsMut Float (LendsMut Float (LendsMut ℕ (Lends ℕ Rest))))

module _ {Rest : Type 0} where
  -- the mesh that the five lists are
  abbrev pub mesh_in : LendsMesh Rest → Mesh
  mesh_in a = mesh_of a.0.now a.1.0.now a.1.1.0.now a.1.1.1.0.now a.1.1.1.1.0.now

  abbrev pub mesh_mut : LendsMeshMut Rest → Mesh
  mesh_mut a = mesh_of a.0.now a.1.0.now a.1.1.0.now a.1.1.1.0.now a.1.1.1.1.0.now

  abbrev pub mesh_placed : LendsInPlace Rest → Mesh
  mesh_placed a = mesh_of a.0.now a.1.0.now a.1.1.0.now a.1.1.1.0.now a.1.1.1.1.0.now

  -- the arguments behind them
  abbrev pub rest : LendsMesh Rest → Rest
  rest a = a.1.1.1.1.1

  -- what one lent list holds, and what two hold, by themselves or as the record of a contract
  abbrev pub list : {X : Type 0} → Lends X Rest → List X
  list a = a.0.now

  abbrev pub list_mut : {X : Type 0} → LendsMut X Rest → List X
  list_mut a = a.0.now

  abbrev pub hem_lists : LendsMut ℕ (LendsMut ℕ Rest) → HemLists
  hem_lists a = hems_in a.0.now a.1.0.now

  abbrev pub listed : LendsMut ℕ (LendsMut ℕ Rest) → Listed
  listed a = listed_of a.0.now a.1.0.now

  -- the lists that the list of hems lends
  abbrev pub hem_listed : LendsMut ℕ (LendsMut ℕ (LendsMut ℕ Rest)) → hemlist.HemLists
  hem_listed a = hemlist.hem_lists_of a.0.now a.1.0.now a.1.1.0.now

  abbrev pub face_lists : Lends ℕ (Lends ℕ Rest) → FaceLists
  face_lists a = faces_of a.0.now a.1.0.now

  abbrev pub face_lists_mut : LendsMut ℕ (LendsMut ℕ Rest) → FaceLists
  face_lists_mut a = faces_of a.0.now a.1.0.now

  -- the lists that compaction, removal and smoothing lend
  abbrev pub compacted_lists : LendsMut ℕ (LendsMut Float (LendsMut Float (LendsMut Float Rest))) → compaction.Result
  compacted_lists a = compaction.result_of a.0.now a.1.0.now a.1.1.0.now a.1.1.1.0.now

  -- the lists that compaction in place changes where they stand, with its number list; the sizes stand between them
  abbrev pub placed_lists : LendsInPlace (LendsMut ℕ Rest) → compaction.Result × List ℕ
  placed_lists a = (compaction.result_of a.1.1.1.0.now a.0.now a.1.0.now a.1.1.0.now, a.1.1.1.1.1.0.now)

  abbrev pub sizes_in : LendsInPlace Rest → List ℕ
  sizes_in a = a.1.1.1.1.0.now

  abbrev pub removed_lists : LendsMut ℕ (LendsMut ℕ (LendsMut ℕ Rest)) → removal.Result
  removed_lists a = removal.result_of a.0.now a.1.0.now a.1.1.0.now

  abbrev pub smoothed_lists : LendsMut Float (LendsMut ℕ (LendsMut ℕ Rest)) → smoothed.Result
  smoothed_lists a = smoothed.lists a.0.now a.1.0.now a.1.1.0.now

-- ---- the ties

-- whatever this contract of the source lets its function answer and leave is a result that the call of the list allows
abbrev pub Tied :
    {K A R E : Type 0} → (K → A → R → E → Type 0) → (c : Call) → (A → c.Given) → (R → E → c.Result) → Type 0
Tied {K} {A} {R} {E} Post c given result = (κs : K) (a : A) (r : R) (e : E) → Post κs a r e → c.Allows (given a) (result r e)

-- two results that a contract of the source allows on the same arguments are equal, as far as the caller sees them
abbrev pub OneResult :
    {K A R E B : Type 0} → (K → A → R → E → Type 0) → (R → E → B) → Type 0
OneResult {K} {A} {R} {E} Post result =
    (κs : K) (a : A) (r q : R) (e f : E) → Post κs a r e → Post κs a q f → result r e ≡ result q f

-- the twenty-one calls: two of them, the engines of merging, have one contract
pub record AllTied : Type 0 where
  pub number_tied : Tied mesh-number.Post number mesh_in (λ r e. r)
  pub face_tied : Tied mesh-face.Post face (λ a. (mesh_in a, (rest a).0)) (λ r e. r.now)
  pub push_tied : Tied push.Post push_call (λ a. (face_lists a, face_lists_mut a.1.1)) (λ r e. (pushed_of r, face_lists_mut e.1.1))
  pub compaction_tied :
      Tied remove-unused-attrs.Post compaction_call (λ a. (seen a.0.now, compacted_lists a.1)) (λ r e. (compaction.compacted_of r, compacted_lists e.1))
  pub in_place_tied : Tied compact-in-place.Post in_place_call (λ a. (sizes_in a, placed_lists a)) (λ r e. (compaction.compacted_of r, placed_lists e))
  pub removal_tied :
      Tied remove-degenerate-faces.Post removal_call (λ a. (seen a.0.now, removed_lists a.1)) (λ r e. (removal.removed_of r, removed_lists e.1))
  pub merging_tied :
      Tied put-together-same-attrs.Post merging_call (λ a. ((mesh_in a, (rest a).0), list_mut (rest a).1)) (λ r e. (r, list_mut (rest e).1))
  pub by_cell_tied :
      Tied put-together-by-cell.Post merging_call (λ a. ((mesh_in a, (rest a).0), list_mut (rest a).1)) (λ r e. (r, list_mut (rest e).1))
  pub smoothing_tied :
      Tied loop-subdivision.Post smoothing_call
      (λ a. ((mesh_in a, list (rest a), list (rest a).1), smoothed_lists (rest a).1.1))
      (λ r e. (r, smoothed_lists (rest e).1.1))
  pub verdict_tied : Tied shell-condition.Post verdict_call mesh_in (λ r e. r)
  pub hem_tied : Tied hem_edges_is.Post hem_call (λ a. (mesh_in a, hem_lists (rest a))) (λ r e. (r, hem_lists (rest e)))
  pub ported_tied : Tied extract-boundaries.Post ported_call (λ a. (mesh_in a, listed (rest a))) (λ r e. (r, listed (rest e)))
  pub house_tied : Tied house_wires_is.Post house_call (λ a. (mesh_in a, listed (rest a))) (λ r e. (r, listed (rest e)))
  pub panels_tied :
      Tied components.Post panels_call (λ a. ((mesh_in a, (rest a).0), listed (rest a).1)) (λ r e. (r, listed (rest e).1))
  pub list_tied :
      Tied list-hems.Post list_call (λ a. ((mesh_in a, list {X = ℤ} (rest a)), hem_listed (rest a).1)) (λ r e. (r, hem_listed (rest e).1))
  pub read_tied : Tied read-panel.Post read_call (λ a. (list a, mesh_mut a.1)) (λ r e. (r, mesh_mut e.1))
  pub scan_tied : Tied read-scan.Post scan_call (λ a. (list a, mesh_mut a.1)) (λ r e. (r, mesh_mut e.1))
  pub write_tied : Tied write-panel.Post write_call (λ a. (mesh_in a, list_mut (rest a))) (λ r e. (r, list_mut (rest e)))
  pub sheet_tied : Tied sheet.Post sheet_call (λ a. (list a, list_mut a.1)) (λ r e. (r, list_mut e.1))
  pub clean_tied : Tied clean.Post clean_call (λ a. (list a, list_mut a.1)) (λ r e. (r, list_mut e.1))
  pub hem_sheet_tied : Tied hem-sheet.Post hem_sheet_call (λ a. (list a, list_mut a.1)) (λ r e. (r, list_mut e.1))

-- ---- the two engines of merging

-- what two sources allow on the same arguments is equal, as far as the caller sees it
abbrev pub SameResult : {K A R E B : Type 0} → (K → A → R → E → Type 0) → (K → A → R → E → Type 0) → (R → E → B) → Type 0
SameResult {K} {A} {R} {E} One Other result =
    (κs κt : K) (a : A) (r q : R) (e f : E) → One κs a r e → Other κt a q f → result r e ≡ result q f

-- `put_together_same_attrs` and `put_together_by_cell`: number, counts and lent list
abbrev pub EnginesAgree : Type 0
EnginesAgree = SameResult {B = merging_call.Result} put-together-same-attrs.Post put-together-by-cell.Post (λ r e. (r, list_mut (rest e).1))

-- ---- compaction in place, and the ordinary

-- what either answers
abbrev pub Counted : Type 0
Counted = Answer Entries Refusal

-- where two sources are given one mesh and both answer 0, what the second leaves in its own lists is what the first hands over
abbrev pub SameMesh :
    {K A E K' A' E' : Type 0} → (K → A → Counted → E → Type 0) → (A → Mesh) → (E → compaction.Result)
    → (K' → A' → Counted → E' → Type 0) → (A' → Mesh) → (A' → E' → Mesh) → Type 0
SameMesh {K} {A} {E} {K'} {A'} {E'} One given handed Other own left =
    (κs : K) (κt : K') (a : A) (b : A') (r q : Counted) (e : E) (f : E')
    → One κs a r e → Other κt b q f → given a ≡ own b → (compaction.compacted_of r).number ≡ 0 → (compaction.compacted_of q).number ≡ 0
    → AsOrdinary (handed e) (compaction.compacted_of r) (left b f) (compaction.compacted_of q)

-- `remove_unused_attrs` and `compact_in_place`: counts, entries and corners
abbrev pub InPlaceAgrees : Type 0
InPlaceAgrees =
    SameMesh remove-unused-attrs.Post (λ a. seen a.0.now) (λ e. compacted_lists e.1)
    compact-in-place.Post mesh_placed (λ b f. mesh_from (placed_lists f).0 (sizes_in b))
