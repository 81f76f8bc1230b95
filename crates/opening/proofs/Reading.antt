-- The file's mesh in lists at the full limits: what the reader accepts stands at the front of the lists; and what the whole call answers.
-- Assumes nothing.
use mathlib.Core.Path.{◌≡◌, ◌∙◌, sym, ap}
use mathlib.Core.List.{List, []}
use Prim.Native.Nat.{ℕ, ◌*◌, ◌≤◌}
use native.Mathlib.Omega.{arith}
use lib.ListN.{length}
use lib.Ieee.{Float}
use Rattle.mesh.specs.Limits.{point_width, texel_width, width, point_numbers, texel_numbers, corner_numbers}
use Rattle.mesh.specs.Mesh.{Mesh, mesh_of}
use Rattle.mesh.specs.Table.{mesh_number, short}
use Rattle.mesh.proofs.Accepted.{accepted}
use Rattle.mesh.proofs.Numbers.{first_head}
use Rattle.mesh.proofs.MeshFronts.{front_positions, front_textures, front_normals, front_corners, front_sizes}
use Rattle.reading.specs.declared.MeshRead.{MeshRead}
use Rattle.reading.specs.Reading.{read_all, finish, reading_number, panel_mesh}
use Rattle.drawing.specs.Drawing.{FileDrawn}
use Rattle.reading.proofs.Ending.{read_accepted}
use Rattle.cleaning.specs.Cleaning.{cleaned}
use Rattle.cleaning.proofs.Cleaned.{cleaned_accepted}
use Rattle.opening.specs.Opening.{FullRoom, front_of, Fronts, Standing, Kept, Opened}
use Rattle.opening.proofs.Fronts.{front_length, fronts_are, fronts_own}

-- the mesh of a file that the reader takes is accepted, and so is what is left of it
pub panel_accepted : (file : List ℕ) → reading_number [] file ≡ 0 → mesh_number (panel_mesh file) ≡ 0
unfolding reading_number short
panel_accepted file h = read_accepted file (first_head (finish file (read_all file)) [] h)

pub opened_accepted : (file : List ℕ) → reading_number [] file ≡ 0 → mesh_number (cleaned (panel_mesh file)) ≡ 0
opened_accepted file h = cleaned_accepted (panel_mesh file) (panel_accepted file h)

-- the counts of what is left, by how many numbers they stand for
pub record Few (r : MeshRead) : Type 0 where
  pub positions : point_width * r.positions ≤ point_numbers
  pub textures : texel_width * r.textures ≤ texel_numbers
  pub normals : point_width * r.normals ≤ point_numbers
  pub corners : width * r.corners ≤ corner_numbers

pub opened_few : {file : List ℕ} {afterwards : Mesh} {r : MeshRead} → Opened file afterwards r → r.number ≡ 0 → Few r
opened_few {file} o z =
    let m = cleaned (panel_mesh file) in
    let limits = (accepted m (opened_accepted file (sym o.number ∙ z))).limits in
    let f = o.left z in
    record {
      positions = omega (arith, front_length f.positions, limits.positions);
      textures = omega (arith, front_length f.textures, limits.textures);
      normals = omega (arith, front_length f.normals, limits.normals);
      corners = omega (arith, front_length f.corners, limits.corners);
    }

module _ {file : List ℕ} {before afterwards : Mesh} {r : MeshRead} (long : FullRoom before) (still : FullRoom afterwards)
    (drawn : FileDrawn file before afterwards r) where
  -- a file that is read
  module _ (z : r.number ≡ 0) where
    abbrev m : Mesh
    m = panel_mesh file

    ok : mesh_number m ≡ 0
    ok = panel_accepted file (sym drawn.number ∙ z)

    read_fronts : Fronts m afterwards r
    read_fronts =
        let h = drawn.handed z in
        record {
          positions = front_positions m ok _ long.positions h.positions h.position_count_is;
          textures = front_textures m ok _ long.textures h.textures h.texture_count_is;
          normals = front_normals m ok _ long.normals h.normals h.normal_count_is;
          corners = front_corners m ok _ long.corners h.corners h.corner_count_is;
          sizes = front_sizes m ok _ long.sizes h.sizes h.face_count;
        }

    pub read_standing : Standing afterwards r
    read_standing = record {
      room = still;
      accepted = ap mesh_number (fronts_are read_fronts) ∙ ok;
      fronts = fronts_own read_fronts;
    }

    pub opened_left : {l : Mesh} {a : MeshRead} → Kept (cleaned (front_of afterwards r)) l a → Opened file l a
    opened_left k =
        let is : Kept (cleaned m) _ _ = rw (fronts_are read_fronts) at k in
        record {
          number = k.number ∙ sym z ∙ drawn.number;
          left = λ _. is.fronts;
          counts = λ h. absurd (h k.number);
        }

-- and lists that are as long
pub still_full :
    {l : Mesh} {p t n : List Float} {c s : List ℕ} → FullRoom l → length p ≡ length l.positions → length t ≡ length l.textures
    → length n ≡ length l.normals → length c ≡ length l.corners → length s ≡ length l.sizes → FullRoom (mesh_of p t n c s)
still_full f p t n c s = record {
  positions = p ∙ f.positions;
  textures = t ∙ f.textures;
  normals = n ∙ f.normals;
  corners = c ∙ f.corners;
  sizes = s ∙ f.sizes;
}
