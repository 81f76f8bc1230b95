-- What the sheets of two files have in common. Assumes nothing.
use mathlib.Core.Path.{◌≡◌, refl, sym, ap, ap₂, ◌∙◌, subst}
use mathlib.Core.Logic.{inl, inr}
use mathlib.Core.Bool.{Bool, true, false, cond}
use mathlib.Core.Option.{Option}
use mathlib.Core.List.{List, [], ◌∷◌, ◌++◌}
use Prim.Native.Nat.{ℕ}
use native.Mathlib.Omega.{arith}
use lib.ListN.{length, take}
use lib.Seq.{sets}
use lib.Dec.{ltb}
use lib.Ieee.{Float}
use borrow.Author.Tests.{le-ltb}
use Rattle.lists.specs.Lists.{some}
use Rattle.lists.proofs.Copies.{take_written}
use Rattle.mesh.specs.Limits.{point_width}
use Rattle.mesh.specs.Mesh.{Mesh, position, faces}
use Rattle.mesh.specs.Table.{mesh_number, when, short}
use Rattle.mesh.proofs.Numbers.{first_head, first_tail}
use Rattle.mesh.proofs.After.{after_done}
use Rattle.folding.specs.Folding.{folded}
use Rattle.removal.specs.Folded.{unfolded_mesh}
use Rattle.removal.proofs.Accepted.{removed_accepted}
use Rattle.unused.specs.Compaction.{entry_at}
use Rattle.edges.specs.Edges.{Verdict, edges_of, verdict}
use Rattle.turning.specs.Turning.{house_wires_of}
use Rattle.turning.specs.Promise.{Fit}
use Rattle.house.specs.Answers.{wired}
use Rattle.order.specs.Same.{Same}
use Rattle.order.proofs.Matched.{same_map}
use Rattle.calls.proofs.Cleaned.{folded_same, folded_by_position}
use Rattle.removal.proofs.Accepted.{faces_stay}
use Rattle.reading.specs.Reading.{finish, read_all, reading_number, panel_mesh}
use Rattle.reading.proofs.Ending.{read_accepted}
use Rattle.lines.specs.Lines.{sheet_text, sheet_room, hem_lines}
use Rattle.cleaning.specs.Cleaning.{cleaned}
use Rattle.finding.specs.Found.{found_of, found_in}
use Rattle.sheet.specs.Sheet.{printed, file_limit, file_number, sheet_of, sheet_number}
use Rattle.renumbered.specs.Points.{hem_points, SamePoints}
use Rattle.renumbered.proofs.Compacted.{compaction_keeps_all}
use Rattle.exports.specs.Covers.{OneCover}
use Rattle.exports.specs.Sheets.{SheetCall, written, first_lines, found, SheetsSay, FirstLinesAreFree, FirstLinesOfUnfolded}
use Rattle.exports.specs.Sheets.{SheetsOfOneCover, PositionsAreEnoughForSheets, HemsArePrinted, HemsAreFree, HemsOfExports}
use Rattle.exports.proofs.Rewritten.{rewritten, rewritten_by}
use Rattle.exports.proofs.Distinct.{folded_renumbered}
use Rattle.exports.proofs.Covers.{hems_of_one_cover}
use Rattle.exports.proofs.Compactions.{but_attributes, own_cover, lines_same}

-- ---- files

module _ (a : List ℕ) (e : file_number a ≡ 0) where
  pub file_accepted : mesh_number (panel_mesh a) ≡ 0
  unfolding file_number reading_number short
  file_accepted =
      read_accepted a
      (first_head (finish a (read_all a)) [] (first_head (reading_number [] a) [] (first_tail (when (ltb file_limit (length a)) 1) (reading_number [] a ∷ []) e)))

  sheet_is : sheet_of a ≡ first_lines (found a) ++ hem_lines (found a).wires
  unfolding sheet_of printed sheet_text
  sheet_is = rw e

-- ---- calls

-- with its room a call answers 0 and writes the sheet
module _ {a : List ℕ} (r : SheetCall a) where
  pub call_done : r.answer.number ≡ 0
  unfolding sheet_number short
  call_done = r.contract.number ∙ rw (le-ltb (length r.out) sheet_room r.room)

  pub as_long : r.answer.length ≡ length (sheet_of a)
  as_long = r.contract.count ∙ after_done r.answer.number (length (sheet_of a)) 0 call_done

  pub sheet_written : written r ≡ sheet_of a
  sheet_written =
      ap₂ take as_long (r.contract.bytes ∙ after_done r.answer.number (sets r.out 0 (sheet_of a)) r.out call_done)
      ∙ take_written r.out (sheet_of a) (length (sheet_of a)) refl (omega (arith, as_long, r.contract.fits))

pub sheets_say : SheetsSay
sheets_say a e r = record { done = call_done r; says = sheet_written r ∙ sheet_is a e }

pub first_lines_are_free : FirstLinesAreFree
unfolding cleaned
first_lines_are_free a b e f s r q =
    let m = unfolded_mesh (panel_mesh a) in
    let n = unfolded_mesh (panel_mesh b) in
    let y = removed_accepted (panel_mesh a) (file_accepted a e) in
    let z = removed_accepted (panel_mesh b) (file_accepted b f) in
    record {
      done = (call_done r, call_done q);
      of_the_one = (sheets_say a e r).says;
      of_the_other = (sheets_say b f q).says ∙ ap (λ (l : List ℕ). l ++ hem_lines (found b).wires) (sym (lines_same m n y z s));
    }

-- ---- files without folded faces

module _ (g : ℕ → ℕ) (a b : List ℕ) (e : file_number a ≡ 0) (f : file_number b ≡ 0)
    (c : OneCover g (faces (panel_mesh a)) (faces (panel_mesh b))) (h : some folded (faces (panel_mesh a)) ≡ false) where
  -- the other has none either
  none_folded : some folded (faces (panel_mesh b)) ≡ false
  none_folded =
      sym (folded_by_position (rewritten g (faces (panel_mesh a))) (faces (panel_mesh b)) (rw (rewritten_by g (faces (panel_mesh a))) c.same_positions))
      ∙ folded_renumbered g (faces (panel_mesh a)) c.one_to_one
      ∙ h

  still_one : OneCover g (faces (unfolded_mesh (panel_mesh a))) (faces (unfolded_mesh (panel_mesh b)))
  still_one = rw (faces_stay (panel_mesh a) (file_accepted a e) h, faces_stay (panel_mesh b) (file_accepted b f) none_folded) c

pub sheets_of_one_cover : SheetsOfOneCover
unfolding cleaned
sheets_of_one_cover g a b e f c h =
    but_attributes g (unfolded_mesh (panel_mesh a)) (unfolded_mesh (panel_mesh b))
    (removed_accepted (panel_mesh a) (file_accepted a e)) (removed_accepted (panel_mesh b) (file_accepted b f))
    (still_one g a b e f c h)

pub positions_enough_for_sheets : PositionsAreEnoughForSheets
positions_enough_for_sheets a b e f s h =
    sheets_of_one_cover (λ i. i) a b e f (own_cover (faces (panel_mesh a)) (faces (panel_mesh b)) s) h

pub first_lines_of_unfolded : FirstLinesOfUnfolded
first_lines_of_unfolded a b e f s h r q =
    first_lines_are_free a b e f
    (rw (faces_stay (panel_mesh a) (file_accepted a e) h, faces_stay (panel_mesh b) (file_accepted b f) (sym (folded_same s) ∙ h)) s)
    r q

-- ---- the hems, as rings of points

fit_wired : (v : Verdict) → Fit v → wired v ≡ true
fit_wired v (inl e) = ap wired e
fit_wired v (inr e) = ap wired e

pub hems_are_printed : HemsArePrinted
unfolding found_in found_of
hems_are_printed file v =
    let m : Mesh = cleaned (panel_mesh file) in
    ap (λ (b : Bool). cond b (Option.some (house_wires_of (faces m))) Option.none) (fit_wired (verdict (edges_of (faces m))) v)

-- after cleaning, from what removal leaves
module _ (g : ℕ → ℕ) (m n : Mesh) (y : mesh_number m ≡ 0) (z : mesh_number n ≡ 0) (v : Fit (found_in (cleaned m)).verdict) where
  cleaned_hems :
      OneCover g (faces (unfolded_mesh m)) (faces (unfolded_mesh n)) → SamePoints g (unfolded_mesh m) (unfolded_mesh n)
      → Same (hem_points (cleaned m)) (hem_points (cleaned n))
  unfolding cleaned found_in found_of
  cleaned_hems c k =
      let y' = removed_accepted m y in
      (hems_of_one_cover g (unfolded_mesh m) (unfolded_mesh n) y' (removed_accepted n z) c k
      (subst Fit (compaction_keeps_all (unfolded_mesh m) y').one_verdict v)
      ).as_printed

pub hems_are_free : HemsAreFree
unfolding unfolded_mesh
hems_are_free a b e f s q v =
    cleaned_hems (λ i. i) (panel_mesh a) (panel_mesh b) (file_accepted a e) (file_accepted b f) v
    (own_cover (faces (unfolded_mesh (panel_mesh a))) (faces (unfolded_mesh (panel_mesh b))) (same_map position s))
    (λ i h. ap (λ (l : List Float). entry_at point_width l i) (sym q))

pub hems_of_exports : HemsOfExports
unfolding unfolded_mesh
hems_of_exports g a b e f c h k v =
    cleaned_hems g (panel_mesh a) (panel_mesh b) (file_accepted a e) (file_accepted b f) v (still_one g a b e f c h)
    (rw (faces_stay (panel_mesh a) (file_accepted a e) h) k)
