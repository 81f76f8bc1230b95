-- A scan in lists at the full limits: what the reader accepts stands at the front of the lists, and what is left of it is kept by its
-- counts, corners and sizes. Assumes nothing.
use mathlib.Core.Path.{◌≡◌, refl, sym, ap, ◌∙◌}
use mathlib.Core.Bool.{Bool, false}
use mathlib.Core.List.{List, [], ◌∷◌}
use Prim.Native.Nat.{ℕ, ◌/◌}
use native.Mathlib.Omega.{arith}
use lib.ListN.{length}
use lib.Seq.{sets}
use lib.Ieee.{Float}
use borrow.Author.Tests.{le-ltb}
use Rattle.mesh.specs.Limits.{texel_width, point_width, face_limit, point_numbers, texel_numbers, corner_numbers}
use Rattle.mesh.specs.Mesh.{Mesh}
use Rattle.mesh.specs.Table.{when, first_of, Lent, mesh_number, short}
use Rattle.mesh.proofs.After.{after_done}
use Rattle.mesh.proofs.MeshFronts.{front_positions, front_textures, front_normals, front_corners, front_sizes}
use Rattle.reading.specs.declared.MeshRead.{MeshRead}
use Rattle.reading.specs.Reading.{full_room, room_of}
use Rattle.cleaning.specs.Cleaning.{cleaned}
use Rattle.cleaning.proofs.Cleaned.{cleaned_accepted}
use Rattle.scanned.specs.Scan.{points_in, mesh_from, scan_mesh, length_number, points_number, scan_number}
use Rattle.scanned.specs.Answer.{ScanRead}
use Rattle.scanned.proofs.Meshes.{number_says_read, read_is_accepted}
use Rattle.opening.specs.Opening.{FullRoom, front_of, Fronts, Standing, Kept}
use Rattle.opening.proofs.Fronts.{front_length, fronts_are, fronts_own}
use Rattle.sheet.specs.Working.{Left}
use Rattle.scanning.specs.Working.{ScanOpened}

-- room at the full limits is not too short
full_room_lem : (m : Mesh) → FullRoom m → short (room_of m) ≡ false
unfolding short full_room
full_room_lem m f =
    rw (
      le-ltb (length m.positions) point_numbers (omega (arith, f.positions)),
      le-ltb (length m.textures) texel_numbers (omega (arith, f.textures)),
      le-ltb (length m.normals) point_numbers (omega (arith, f.normals)),
      le-ltb (length m.corners) corner_numbers (omega (arith, f.corners)),
      le-ltb (length m.sizes) face_limit (omega (arith, f.sizes)),
    )

no_room : short [] ≡ false
unfolding short
no_room = refl

room_apart : (rooms : List Lent) (file : List ℕ) → short rooms ≡ false → scan_number rooms file ≡ scan_number [] file
unfolding scan_number
room_apart rooms file e =
    ap (λ (b : Bool). first_of (when b 9 ∷ length_number file ∷ points_number (points_in file) ∷ [])) (e ∙ sym no_room)

-- a scan has no texture points and no normals
no_textures : (file : List ℕ) → (scan_mesh file).textures ≡ []
unfolding scan_mesh mesh_from
no_textures file = refl

no_normals : (file : List ℕ) → (scan_mesh file).normals ≡ []
unfolding scan_mesh mesh_from
no_normals file = refl

scan_accepted : (file : List ℕ) → scan_number [] file ≡ 0 → mesh_number (scan_mesh file) ≡ 0
scan_accepted file e = read_is_accepted file (number_says_read [] file e)

module _ {file : List ℕ} {before afterwards : Mesh} {r : MeshRead} (long : FullRoom before) (still : FullRoom afterwards)
    (read : ScanRead file before afterwards r) where
  number_is : r.number ≡ scan_number [] file
  number_is = read.number ∙ room_apart (room_of before) file (full_room_lem before long)

  -- a scan that is read
  module _ (z : r.number ≡ 0) where
    abbrev m : Mesh
    m = scan_mesh file

    ok : mesh_number m ≡ 0
    ok = scan_accepted file (sym number_is ∙ z)

    read_fronts : Fronts (scan_mesh file) afterwards r
    read_fronts = record {
      positions = front_positions m ok _ long.positions (read.positions ∙ after_done r.number _ _ z) (read.position_count_is ∙ after_done r.number _ _ z);
      textures =
          front_textures m ok before.textures long.textures (read.textures ∙ ap (sets before.textures 0) (sym (no_textures file)))
          (read.texture_count_is ∙ ap (λ (l : List Float). length l / texel_width) (sym (no_textures file)));
      normals =
          front_normals m ok before.normals long.normals (read.normals ∙ ap (sets before.normals 0) (sym (no_normals file)))
          (read.normal_count_is ∙ ap (λ (l : List Float). length l / point_width) (sym (no_normals file)));
      corners = front_corners m ok _ long.corners (read.corners ∙ after_done r.number _ _ z) (read.corner_count_is ∙ after_done r.number _ _ z);
      sizes = front_sizes m ok _ long.sizes (read.sizes ∙ after_done r.number _ _ z) (read.face_count ∙ after_done r.number _ _ z);
    }

    pub scan_standing : Standing afterwards r
    scan_standing = record {
      room = still;
      accepted = ap mesh_number (fronts_are read_fronts) ∙ ok;
      fronts = fronts_own read_fronts;
    }

    pub scan_left : {l : Mesh} {a : MeshRead} → Kept (cleaned (front_of afterwards r)) l a → ScanOpened file l a
    scan_left k =
        let is : Kept (cleaned m) _ _ = rw (fronts_are read_fronts) at k in
        record { number = k.number ∙ sym z ∙ number_is; left = λ _. is.fronts }

  -- one that is refused
  pub scan_refused : (r.number ≡ 0 → ⊥) → ScanOpened file afterwards r
  scan_refused h = record { number = number_is; left = λ z. absurd (h z) }

-- what is left is kept by its counts, corners and sizes
pub scan_kept :
    {file : List ℕ} {afterwards : Mesh} {r : MeshRead} → ScanOpened file afterwards r
    → Left (scan_number [] file) (scan_mesh file) r afterwards.corners afterwards.sizes
scan_kept {file} o = record {
  number_is = o.number;
  kept = λ z.
      let f = o.left z in
      record {
        accepted = cleaned_accepted (scan_mesh file) (scan_accepted file (sym o.number ∙ z));
        positions = omega (arith, front_length f.positions);
        textures = omega (arith, front_length f.textures);
        normals = omega (arith, front_length f.normals);
        corner_front = f.corners;
        size_front = f.sizes;
      };
}
