-- What reading a file comes to, for whoever goes on with its mesh; and what room that is not too short has. Proved in proofs/. Assumes
-- nothing.
use Rattle.std.specs.Prelude.{◌≡◌, true, false, List, ℕ, ◌≤◌, length, Float}
use Rattle.mesh.specs.Limits.{face_limit, point_numbers, texel_numbers, corner_numbers}
use Rattle.mesh.specs.Table.{mesh_number, short}
use Rattle.floating.specs.Limits.{all_finite}
use Rattle.reading.specs.Reading.{read_all, finish, full_room, panel_mesh}

-- the mesh of a file that is read is accepted
abbrev pub ReadIsAccepted : Type 0
ReadIsAccepted = (file : List ℕ) → finish file (read_all file) ≡ 0 → mesh_number (panel_mesh file) ≡ 0

-- and every coordinate of it is finite. Of a file that is refused this holds too: what was drawn before the refusal is finite
abbrev pub ReadIsFinite : Type 0
ReadIsFinite = (file : List ℕ) → all_finite (panel_mesh file).positions (panel_mesh file).textures (panel_mesh file).normals ≡ true

-- lent lists at the full limits at least
pub record Full (p t n : List Float) (c s : List ℕ) : Type 0 where
  pub positions : point_numbers ≤ length p
  pub textures : texel_numbers ≤ length t
  pub normals : point_numbers ≤ length n
  pub corners : corner_numbers ≤ length c
  pub sizes : face_limit ≤ length s

-- which those are that are not too short
abbrev pub RoomIsFull : Type 0
RoomIsFull =
    (p t n : List Float) (c s : List ℕ) → short (full_room (length p) (length t) (length n) (length c) (length s)) ≡ false → Full p t n c s
