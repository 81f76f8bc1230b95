-- The ways out of the call and of its last step: the room is too short, or the sheet is the file's; there is not one triple for each position,
-- or the sheet is that of the mesh and its coordinates. Assumes nothing.
use mathlib.Core.Path.{◌≡◌, ◌∙◌, refl, sym, ap}
use mathlib.Core.List.{List}
use Prim.Native.Nat.{ℕ, ◌*◌, ◌/◌, ◌≤◌, ◌<◌}
use native.Mathlib.Omega.{arith}
use lib.ListN.{length}
use lib.IntN.{ℤ}
use borrow.Author.Tests.{lt-ltb, le-ltb, eq-eqb, ne_eqb}
use Rattle.mesh.specs.Limits.{point_width}
use Rattle.mesh.specs.Mesh.{Ring}
use Rattle.mesh.specs.Table.{short}
use Rattle.lines.specs.Lines.{refusal}
use Rattle.lines.specs.Working.{Sheeted}
use Rattle.triples.specs.Triples.{coordinate_bytes, coordinates_in}
use Rattle.triples.proofs.Coordinates.{coordinates_long}
use Rattle.hemtext.specs.HemText.{printed, hem_room}
use Rattle.hemtext.specs.Working.{Textable, text_by}
use Rattle.hemfile.specs.HemFile.{coordinates_of, triple_width, astray_triples, hem_sheet_of, hem_sheet_number, HemsPrinted}
use Rattle.hemfile.specs.Working.{mesh_sheet, Placeable}

-- ---- triples

pub cut_text : (n : ℕ) (bytes : List ℕ) (fs : List Ring) → (length bytes ≡ triple_width * n → ⊥) → refusal 18 ≡ mesh_sheet n bytes fs
unfolding mesh_sheet astray_triples printed
cut_text n bytes fs h = rw (ne_eqb (length bytes) (triple_width * n) h)

module _ (n : ℕ) (bytes : List ℕ) (whole : length bytes ≡ triple_width * n) where
  coordinates_are : coordinates_in bytes (point_width * n) ≡ coordinates_of bytes
  unfolding coordinates_of
  coordinates_are = let e : point_width * n ≡ length bytes / coordinate_bytes = omega arith in ap (coordinates_in bytes) e

  whole_text : {cs : List ℤ} (fs : List Ring) → cs ≡ coordinates_in bytes (point_width * n) → text_by cs fs ≡ mesh_sheet n bytes fs
  unfolding mesh_sheet text_by astray_triples
  whole_text fs e = rw (e ∙ coordinates_are, eq-eqb (length bytes) (triple_width * n) whole)

  module _ {c s out : List ℕ} {row cs : List ℤ} (p : Placeable c s n bytes row out) (is : cs ≡ coordinates_in bytes (length row)) where
    placed : cs ≡ coordinates_in bytes (point_width * n)
    placed = is ∙ ap (coordinates_in bytes) p.long

    pub textable : Textable c s n cs out
    textable = record {
      edged = p.printable.edged;
      keyable = p.printable.keyable;
      long = ap length placed ∙ coordinates_long bytes (point_width * n);
      room = p.printable.room;
    }

    pub placed_text : (fs : List Ring) → text_by cs fs ≡ mesh_sheet n bytes fs
    placed_text fs = whole_text fs placed

-- ---- the ways out of the call

pub short_of_room : (file out : List ℕ) → length out < hem_room → HemsPrinted file out out (record { number = 9; length = 0 })
unfolding hem_sheet_number short
short_of_room file out h = record { number = rw (lt-ltb (length out) hem_room h); count = refl; bytes = refl; fits = omega arith }

room_enough : (out : List ℕ) → hem_room ≤ length out → hem_sheet_number (length out) ≡ 0
unfolding hem_sheet_number short
room_enough out h = rw (le-ltb (length out) hem_room h)

pub done :
    {file out out' : List ℕ} {n : ℕ} → hem_room ≤ length out → Sheeted (hem_sheet_of file) out out' n → HemsPrinted file out out' (record { number = 0; length = n })
done {file} {out} room w = record { number = sym (room_enough out room); count = w.length_is; bytes = w.text_is; fits = w.fits }
