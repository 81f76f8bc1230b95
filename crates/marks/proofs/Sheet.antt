-- A face that is handed back, cleaning, and what the sheet says of a mesh. Assumes nothing.
use mathlib.Core.Path.{◌≡◌, refl, ap, ap₂, ◌∙◌}
use mathlib.Core.Bool.{Bool, true, false, cond, ◌&&◌}
use mathlib.Core.Option.{none, some}
use mathlib.Core.List.{List}
use Prim.Native.Nat.{ℕ, ◌*◌}
use lib.ListN.{length, get_or, take, drop}
use lib.Dec.{ltb, eqb}
use Rattle.mesh.specs.Limits.{width}
use Rattle.mesh.specs.Mesh.{Mesh, Ring, faces, position_count, texture_count, normal_count}
use Rattle.mesh.specs.Table.{mesh_number, shape_number}
use Rattle.mesh.specs.Face.{offset_of, face_of, list_if, face_part}
use Rattle.verdicts.specs.Edges.{verdict}
use Rattle.removal.specs.Folded.{unfolded_mesh}
use Rattle.removal.proofs.Accepted.{removed_accepted}
use Rattle.unused.specs.Compaction.{compacted}
use Rattle.cleaning.specs.Cleaning.{cleaned}
use Rattle.turning.specs.Turning.{house_wires}
use Rattle.house.specs.Answers.{wired}
use Rattle.lines.specs.Lines.{sheet_text}
use Rattle.finding.specs.Found.{found_of, found_in}
use Rattle.marks.specs.Marks.{remarked, remarked_faces, remarked_mesh, Unread, Moved}
use Rattle.marks.proofs.Remarked.{take_remarked, drop_remarked, faces_remarked}
use Rattle.marks.proofs.Accepted.{shape_remarked}
use Rattle.marks.proofs.Removal.{unfolded_moves}
use Rattle.marks.proofs.Compaction.{compacted_moves}
use Rattle.marks.proofs.Edges.{positions_remarked, edges_remarked}
use Rattle.marks.proofs.Panels.{panels_remarked}

list_if_lem : (g : ℕ → ℕ) (b : Bool) (l : List ℕ) → list_if b (remarked g l) ≡ remarked g (list_if b l)
list_if_lem g true l = refl
list_if_lem g false l = refl

pub part_moved : (g : ℕ → ℕ) (m : Mesh) (k : ℕ) → face_part (remarked_mesh g m) k ≡ remarked g (face_part m k)
unfolding face_part face_of remarked_mesh
part_moved g m k =
    ap₂ (λ (s : ℕ) (l : List ℕ). list_if (ltb k (length m.sizes) && eqb s 0) l) (shape_remarked g m)
    (ap (take (width * get_or m.sizes k 0)) (drop_remarked g (offset_of m.sizes k) m.corners)
    ∙ take_remarked g (get_or m.sizes k 0) (drop (width * offset_of m.sizes k) m.corners))
    ∙ list_if_lem g (ltb k (length m.sizes) && eqb (shape_number m) 0) (face_of m.corners m.sizes k)

pub cleaned_moves : Moved cleaned
unfolding cleaned
cleaned_moves g m h = ap compacted (unfolded_moves g m h) ∙ compacted_moves g (unfolded_mesh m) (removed_accepted m h)

found_faces : (g : ℕ → ℕ) (p t n f : ℕ) (fs : List Ring) → found_of p t n f (remarked_faces g fs) ≡ found_of p t n f fs
unfolding found_of
found_faces g p t n f fs = λ i. record {
  positions = p;
  textures = t;
  normals = n;
  faces = f;
  verdict = verdict (edges_remarked g fs i);
  panels = length (panels_remarked g false fs i);
  wires = cond (wired (verdict (edges_remarked g fs i))) (some (house_wires (positions_remarked g fs i))) none;
}

found_unread : Unread found_in
unfolding found_in remarked_mesh
found_unread g m =
    let f = found_of (position_count m) (texture_count m) (normal_count m) (length m.sizes) in
    ap f (faces_remarked g m) ∙ found_faces g (position_count m) (texture_count m) (normal_count m) (length m.sizes) (faces m)

pub sheet_unread : (g : ℕ → ℕ) (m : Mesh) → mesh_number m ≡ 0 → sheet_text (found_in (cleaned (remarked_mesh g m))) ≡ sheet_text (found_in (cleaned m))
sheet_unread g m h = ap sheet_text (ap found_in (cleaned_moves g m h) ∙ found_unread g (cleaned m))
