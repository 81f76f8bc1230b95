-- What is left of a file, in lists at the full limits: its file can be written, and what the whole call answers. Assumes nothing.
use mathlib.Core.Path.{◌≡◌, ◌∙◌, refl, sym, ap}
use mathlib.Core.Bool.{true}
use mathlib.Core.List.{List, [], ◌∷◌}
use Prim.Native.Nat.{ℕ, zero, suc, ◌≤◌, ◌<◌}
use native.Mathlib.Omega.{arith}
use lib.ListN.{length}
use lib.Seq.{sets}
use borrow.Author.Tests.{lt-ltb, le-ltb}
use Rattle.mesh.specs.Mesh.{Mesh}
use Rattle.mesh.specs.Table.{mesh_number, short}
use Rattle.floating.specs.Limits.{finite}
use Rattle.floating.proofs.Finite.{Finite, finite_lists, lists_finite}
use Rattle.reading.specs.declared.MeshRead.{MeshRead}
use Rattle.reading.specs.Reading.{reading_number, panel_mesh}
use Rattle.reading.proofs.Values.{read_finite}
use Rattle.written.specs.Pieces.{finite_mesh, file_of, file_length, file_limit}
use Rattle.written.specs.Answer.{Ready}
use Rattle.saving.specs.Working.{Stored}
use Rattle.written.proofs.Parting.{file_is_long, file_fits}
use Rattle.opening.specs.Opening.{front_of, Opened}
use Rattle.opening.proofs.Fronts.{fronts_are}
use Rattle.opening.proofs.Reading.{opened_accepted}
use Rattle.opening.proofs.Kept.{Passes, cleaned_passes}
use Rattle.cleanfile.specs.declared.Cleaned.{Cleaned}
use Rattle.cleanfile.specs.Cleaning.{mesh_left, clean_file, cleaning_number, PanelCleaned}
use Rattle.cleanfile.specs.Working.{FileRoom, refused_by, Answered}

-- what is left of a file is finite, as all that is read is
pub left_finite : (file : List ℕ) → finite_mesh (mesh_left file) ≡ true
left_finite file =
    let m = panel_mesh file in
    let f : Finite m.positions m.textures m.normals = finite_lists m.positions m.textures m.normals (read_finite file) in
    let k : Passes finite (mesh_left file) =
    cleaned_passes finite m (record { positions = f.positions; textures = f.textures; normals = f.normals }) in
    lists_finite (mesh_left file).positions (mesh_left file).textures (mesh_left file).normals
    (record { positions = k.positions; textures = k.textures; normals = k.normals })

-- ---- the file is opened

module _ {file out : List ℕ} {before afterwards : Mesh} {r : MeshRead} (room : FileRoom before out) (opened : Opened file afterwards r)
  where
    -- one whose mesh is left at the front of the lists
    module _ (z : r.number ≡ 0) where
      reads : reading_number [] file ≡ 0
      reads = sym opened.number ∙ z

      left_is : front_of afterwards r ≡ mesh_left file
      left_is = fronts_are (opened.left z)

      accepted : mesh_number (front_of afterwards r) ≡ 0
      accepted = ap mesh_number left_is ∙ opened_accepted file reads

      pub left_ready : Ready (front_of afterwards r) out
      left_ready = record {
        accepted = accepted;
        are_finite = ap finite_mesh left_is ∙ left_finite file;
        room = omega (arith, file_fits (front_of afterwards r) accepted, room.room);
      }

      pub left_written :
          {out' : List ℕ} {l : ℕ} → Stored (file_of (front_of afterwards r)) out out' 0 l
          → Answered (reading_number [] file) (mesh_left file) out out' (record { number = 0; length = l })
      left_written {out'} {l} s =
          let long : l ≡ file_length (front_of afterwards r) = omega (arith, s.place, file_is_long (front_of afterwards r) accepted) in
          record {
            number = sym reads;
            byte_count = rw reads (long ∙ ap file_length left_is);
            bytes = rw reads (s.file ∙ ap (λ m. sets out 0 (file_of m)) left_is);
          }

-- ---- the whole call

module _ (file out : List ℕ) where
  pub call_short : length out < file_limit → PanelCleaned file out out (refused_by 9)
  unfolding cleaning_number short
  call_short h = record { number = rw (lt-ltb (length out) file_limit h); byte_count = refl; bytes = refl }

  pub call_long : file_limit ≤ length out → file_limit < length file → PanelCleaned file out out (refused_by 1)
  unfolding cleaning_number short
  call_long h k = record { number = rw (le-ltb (length out) file_limit h, lt-ltb file_limit (length file) k); byte_count = refl; bytes = refl }

  pub call_read :
      file_limit ≤ length out → length file ≤ file_limit → (out' : List ℕ) (r : Cleaned)
      → Answered (reading_number [] file) (mesh_left file) out out' r → PanelCleaned file out out' r
  unfolding cleaning_number clean_file short
  call_read h k out' r a = record {
    number = rw (le-ltb (length out) file_limit h, le-ltb file_limit (length file) k) (go (reading_number [] file) a.number);
    byte_count = rw a.number a.byte_count;
    bytes = rw a.number a.bytes;
  }
    where
      go : (n : ℕ) → r.number ≡ n → r.number ≡ Rattle.mesh.specs.Table.first_of (n ∷ [])
      go zero e = e
      go (suc n) e = e
