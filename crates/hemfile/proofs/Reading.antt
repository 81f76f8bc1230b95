-- The panel file's mesh, drawn into lists at the full limits, is kept by its count of positions and by its corners and sizes. Assumes nothing.
use mathlib.Core.Path.{◌≡◌, ◌∙◌, sym, refl, ap}
use mathlib.Core.List.{List, [], ◌∷◌}
use Prim.Native.Nat.{ℕ, zero, suc, ◌*◌, ◌≤◌}
use native.Mathlib.Omega.{arith}
use lib.ListN.{length, take}
use lib.IntN.{ℤ}
use Rattle.mesh.specs.Limits.{width, corner_numbers}
use Rattle.mesh.specs.Mesh.{Mesh, Ring, rings, faces, position_count}
use Rattle.mesh.specs.Table.{mesh_number, first_of, short}
use Rattle.mesh.proofs.Accepted.{accepted}
use Rattle.mesh.proofs.Numbers.{first_head, first_on}
use Rattle.mesh.proofs.MeshFronts.{front_corners, front_sizes}
use Rattle.edges.proofs.Answering.{edged}
use Rattle.keys.proofs.Valid.{keyable}
use Rattle.lines.specs.Lines.{refusal}
use Rattle.reading.specs.declared.MeshRead.{MeshRead}
use Rattle.reading.specs.Reading.{read_all, finish, reading_number, panel_mesh}
use Rattle.reading.proofs.Ending.{read_accepted}
use Rattle.drawing.specs.Drawing.{FileDrawn}
use Rattle.hemtext.specs.HemText.{printed, hem_room}
use Rattle.hemfile.specs.HemFile.{coordinates_of}
use Rattle.hemfile.specs.Working.{triple_rows, mesh_sheet, panel_sheet, Printable, FaceRoom, Kept, Read}

panel_accepted : (panel : List ℕ) → reading_number [] panel ≡ 0 → mesh_number (panel_mesh panel) ≡ 0
unfolding reading_number short
panel_accepted panel h = read_accepted panel (first_head (finish panel (read_all panel)) [] h)

pub drawn_read :
    {panel : List ℕ} {before afterwards : Mesh} {r : MeshRead} → FaceRoom before.corners before.sizes → FileDrawn panel before afterwards r
    → Read panel r afterwards.corners afterwards.sizes
drawn_read {panel} room d = record {
  number_is = d.number;
  kept = λ z.
      let m = panel_mesh panel in
      let ok : mesh_number m ≡ 0 = panel_accepted panel (sym d.number ∙ z) in
      let h = d.handed z in
      record {
        accepted = ok;
        positions = h.position_count_is;
        corner_front = front_corners m ok _ room.corners_long h.corners h.corner_count_is;
        size_front = front_sizes m ok _ room.sizes_long h.sizes h.face_count;
      };
}

-- ---- the sheet of a panel file and triples, by what was read

refused_by : (n : ℕ) (ns : List ℕ) (cs : List ℤ) (fs : List Ring) → (n ≡ 0 → ⊥) → refusal n ≡ printed (first_of (n ∷ ns)) cs fs
unfolding printed
refused_by zero ns cs fs h = absurd (h refl)
refused_by (suc n) ns cs fs h = refl

module _ {panel : List ℕ} (bytes : List ℕ) {r : MeshRead} {c s : List ℕ} (read : Read panel r c s) where
  pub refused_text : (r.number ≡ 0 → ⊥) → refusal r.number ≡ panel_sheet panel bytes
  unfolding panel_sheet
  refused_text h =
      ap refusal read.number_is ∙ refused_by (reading_number [] panel) (triple_rows (position_count (panel_mesh panel)) bytes (faces (panel_mesh panel))) (coordinates_of bytes)
      (faces (panel_mesh panel)) (λ z. h (read.number_is ∙ z))

  module _ (z : r.number ≡ 0) where
    abbrev m : Mesh
    m = panel_mesh panel

    pub kept : Kept m r c s
    kept = read.kept z

    pub corners_few : width * r.corners ≤ corner_numbers
    corners_few = omega (arith, kept.corner_front.long, ap length kept.corner_front.is, (accepted m kept.accepted).limits.corners)

    pub printable : {out : List ℕ} → hem_room ≤ length out → Printable (take (width * r.corners) c) (take r.faces s) r.positions out
    printable room =
        rw (kept.positions, kept.corner_front.is, kept.size_front.is)
        (record { edged = edged m kept.accepted; keyable = keyable m (accepted m kept.accepted); room = room })

    pub mesh_text : mesh_sheet r.positions bytes (rings (take r.faces s) (take (width * r.corners) c)) ≡ panel_sheet panel bytes
    unfolding mesh_sheet panel_sheet faces
    mesh_text =
        rw (kept.positions, kept.corner_front.is, kept.size_front.is)
        (ap (λ (n : ℕ). printed n (coordinates_of bytes) (faces m)) (sym (first_on (reading_number [] panel) (triple_rows (position_count m) bytes (faces m)) (sym read.number_is ∙ z))))
