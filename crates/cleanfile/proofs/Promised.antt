-- What is left of a file is an accepted mesh with finite f64 coordinates and marks of 32 bits: so its file fits the buffer, and is read again. Assumes nothing.
use mathlib.Core.Path.{◌≡◌, refl, sym, ◌∙◌}
use mathlib.Core.Bool.{false, ◌||◌}
use mathlib.Core.List.{List, [], ◌∷◌}
use Prim.Native.Nat.{ℕ, zero, suc, ◌≤◌}
use native.Mathlib.Omega.{arith}
use lib.ListN.{length}
use lib.Dec.{ltb}
use borrow.Author.Tests.{ltb-false}
use Rattle.lists.proofs.Bools.{or_false_left}
use Rattle.mesh.specs.Limits.{largest}
use Rattle.mesh.specs.Table.{when, short}
use Rattle.mesh.proofs.Numbers.{first_head, first_tail, when_not}
use Rattle.little.specs.Little.{Bytes}
use Rattle.reading.specs.Reading.{reading_number, panel_mesh}
use Rattle.written.specs.Pieces.{file_length, file_limit}
use Rattle.written.proofs.Parting.{file_fits}
use Rattle.written.specs.Promises.{DoubleMesh}
use Rattle.written.specs.Said.{is_double}
use Rattle.written.proofs.Saying.{doubles}
use Rattle.written.proofs.Reading.{doubles_are, read_doubles}
use Rattle.written.proofs.Reopened.{reopens}
use Rattle.opening.proofs.Reading.{panel_accepted, opened_accepted}
use Rattle.opening.proofs.Kept.{Passes, cleaned_passes}
use Rattle.opening.proofs.Marks.{cleaned_marks}
use Rattle.cleanfile.specs.Cleaning.{mesh_left, cleaning_number}
use Rattle.cleanfile.proofs.Answering.{left_finite}
use Rattle.cleanfile.specs.Promises.{LeftIsAccepted, CleanedFits, CleanedReopens}

-- ---- accepted

pub left_accepted : LeftIsAccepted
left_accepted file h = opened_accepted file h

-- ---- the buffer is long enough

-- a call that answers 0 has room for every file, and the reader takes the file
done_room : (file : List ℕ) (room : ℕ) → cleaning_number room file ≡ 0 → (file_limit ≤ room) × (reading_number [] file ≡ 0)
unfolding cleaning_number short
done_room file room h =
    let e = ltb room file_limit in
    let long = when (ltb file_limit (length file)) 1 in
    let read = reading_number [] file ∷ [] in
    let s : (e || false) ≡ false = when_not (e || false) 8 (first_head (when (e || false) 9) (long ∷ read) h) in
    (ltb-false room file_limit (or_false_left e false s), first_head (reading_number [] file) [] (first_tail long read (first_tail (when (e || false) 9) (long ∷ read) h)))

pub cleaned_fits : CleanedFits
cleaned_fits file before afterwards answer c = go answer.number refl
  where
    go : (n : ℕ) → answer.number ≡ n → answer.length ≤ length before
    go zero e =
        let r = done_room file (length before) (sym c.number ∙ e) in
        let l : answer.length ≡ file_length (mesh_left file) = rw e at c.byte_count in
        omega (arith, r.0, l, file_fits (mesh_left file) (left_accepted file r.1))
    go (suc n) e = let l : answer.length ≡ 0 = rw e at c.byte_count in omega arith

-- ---- finite f64 coordinates, and marks of 32 bits

left_double : (file : List ℕ) → Bytes file → reading_number [] file ≡ 0 → DoubleMesh (mesh_left file)
left_double file b h =
    let m = panel_mesh file in
    let d = read_doubles file b in
    let k : Passes is_double (mesh_left file) =
    cleaned_passes is_double m
    (record {
      positions = doubles m.positions d.positions;
      textures = doubles m.textures d.textures;
      normals = doubles m.normals d.normals;
    }) in
    record {
      positions = doubles_are (mesh_left file).positions k.positions;
      textures = doubles_are (mesh_left file).textures k.textures;
      normals = doubles_are (mesh_left file).normals k.normals;
      marks = cleaned_marks largest m (panel_accepted file h) d.marks;
    }

pub cleaned_reopens : CleanedReopens
cleaned_reopens file b h = reopens (mesh_left file) (left_accepted file h) (left_double file b h) (left_finite file)
