-- The sheet of a file by its number and by its mesh after cleaning, and the ways out of `sheet`: its room is too short, the file is too
-- long, or the sheet is the file's. Assumes nothing.
use mathlib.Core.Path.{◌≡◌, ◌∙◌, refl, sym, ap}
use mathlib.Core.List.{◌∷◌, List, []}
use Prim.Native.Nat.{◌*◌, ◌≤◌, ◌<◌, ℕ, zero, suc}
use native.Mathlib.Omega.{arith}
use lib.ListN.{length, take}
use lib.Seq.{sets}
use borrow.Author.Tests.{lt-ltb, le-ltb}
use Rattle.mesh.specs.Limits.{width}
use Rattle.mesh.specs.Mesh.{Mesh, rings, faces, position_count, texture_count, normal_count}
use Rattle.mesh.specs.Table.{first_of, short, mesh_number}
use Rattle.mesh.proofs.Accepted.{Accepted, accepted}
use Rattle.edges.proofs.Answering.{edged}
use Rattle.keys.proofs.Valid.{keyable}
use Rattle.lines.specs.Lines.{sheet_text, sheet_room, refusal}
use Rattle.lines.specs.Working.{Sheeted}
use Rattle.reading.specs.declared.MeshRead.{MeshRead}
use Rattle.reading.specs.Reading.{reading_number, panel_mesh}
use Rattle.cleaning.specs.Cleaning.{cleaned}
use Rattle.finding.specs.Found.{found_of, found_in}
use Rattle.finding.specs.Working.{Findable}
use Rattle.sheet.specs.Sheet.{printed, file_limit, file_number, sheet_of, sheet_number, Printed}
use Rattle.sheet.specs.Working.{Kept, Left}

-- ---- the file's number, and its mesh after cleaning

printed_refused : (n : ℕ) (m : Mesh) → (n ≡ 0 → ⊥) → refusal n ≡ printed n m
unfolding printed
printed_refused zero m h = absurd (h refl)
printed_refused (suc n) m h = refl

printed_done : (n : ℕ) (m : Mesh) → n ≡ 0 → sheet_text (found_in (cleaned m)) ≡ printed n m
unfolding printed
printed_done zero m h = refl
printed_done (suc n) m h = cc

-- what is found in a mesh is found by its counts, corners and sizes
found_by : (m : Mesh) → found_of (position_count m) (texture_count m) (normal_count m) (length m.sizes) (rings m.sizes m.corners) ≡ found_in m
unfolding found_in faces
found_by m = refl

-- what of an accepted mesh the search rests on
findable :
    (m : Mesh) → mesh_number m ≡ 0 → {out : List ℕ} → sheet_room ≤ length out
    → Findable (position_count m) (texture_count m) (normal_count m) m.corners m.sizes out
findable m ok room =
    let a : Accepted m = accepted m ok in
    record {
      edged = edged m ok;
      keyable = keyable m a;
      textures_few = omega (arith, a.limits.textures);
      normals_few = omega (arith, a.limits.normals);
      room = room;
    }

module _ {n : ℕ} {m : Mesh} {r : MeshRead} {c s : List ℕ} (left : Left n m r c s) where
  pub refused_text : (r.number ≡ 0 → ⊥) → refusal r.number ≡ printed n m
  refused_text h = ap refusal left.number_is ∙ printed_refused n m (λ z. h (left.number_is ∙ z))

  module _ (z : r.number ≡ 0) where
    abbrev k : Kept (cleaned m) r c s
    k = left.kept z

    pub kept_findable :
        {out : List ℕ} → sheet_room ≤ length out
        → Findable r.positions r.textures r.normals (take (width * r.corners) c) (take r.faces s) out
    kept_findable room = rw (k.positions, k.textures, k.normals, k.corner_front.is, k.size_front.is) (findable (cleaned m) k.accepted room)

    pub kept_text :
        sheet_text
        (found_of r.positions r.textures r.normals (length (take r.faces s)) (rings (take r.faces s) (take (width * r.corners) c)))
        ≡ printed n m
    kept_text =
        rw (k.positions, k.textures, k.normals, k.corner_front.is, k.size_front.is)
        (ap sheet_text (found_by (cleaned m)) ∙ printed_done _ m (sym left.number_is ∙ z))

-- ---- the ways out of the call

pub short_of_room : (file out : List ℕ) → length out < sheet_room → Printed file out out (record { number = 9; length = 0 })
unfolding sheet_number short
short_of_room file out h = record { number = rw (lt-ltb (length out) sheet_room h); count = refl; bytes = refl; fits = omega arith }

room_enough : (out : List ℕ) → sheet_room ≤ length out → sheet_number (length out) ≡ 0
unfolding sheet_number short
room_enough out h = rw (le-ltb (length out) sheet_room h)

pub done :
    {file out out' text : List ℕ} {n : ℕ} → sheet_room ≤ length out → text ≡ sheet_of file → Sheeted text out out' n
    → Printed file out out' (record { number = 0; length = n })
done {file} {out} room e w = record {
  number = sym (room_enough out room);
  count = w.length_is ∙ ap length e;
  bytes = w.text_is ∙ ap (sets out 0) e;
  fits = w.fits;
}

one_alone : (n : ℕ) → first_of (n ∷ []) ≡ n
one_alone zero = refl
one_alone (suc n) = refl

pub long_file : (file : List ℕ) → file_limit < length file → refusal 1 ≡ sheet_of file
unfolding sheet_of file_number printed
long_file file h = rw (lt-ltb file_limit (length file) h)

pub short_file : (file : List ℕ) → length file ≤ file_limit → printed (reading_number [] file) (panel_mesh file) ≡ sheet_of file
unfolding sheet_of file_number
short_file file h = rw (le-ltb file_limit (length file) h, one_alone (reading_number [] file))
