-- Which pieces a file can say so that they are read back, and what the reader answers for each: one line for each kind. Assumes nothing.
use Rattle.std.specs.Prelude.{ℕ, ◌+◌, ◌≤◌, Bool, true, false, ◌&&◌, List, [], ◌∷◌, ◌++◌, length, ltb, Float}
use Rattle.std.specs.Float.Ieee.{fits}
use Rattle.std.specs.Float.{binary64}
use Rattle.lists.specs.Lists.{every, each}
use Rattle.mesh.specs.Limits.{corner_limit, point_numbers, texel_numbers}
use Rattle.mesh.specs.Mesh.{Ring}
use Rattle.mesh.proofs.Corners.{is_corner}
use Rattle.grouping.specs.Push.{corner_count}
use Rattle.grouping.proofs.Accepting.{sized}
use Rattle.floating.specs.Limits.{finite}
use Rattle.floating.specs.Points.{coordinates}
use Rattle.records.specs.Lengths.{header_length}
use Rattle.records.specs.declared.Record.{Record}
use Rattle.records.specs.declared.Record.TheVariants.{Position, Texture, Normal, Face, End}
use Rattle.reading.specs.Reading.{Drawn, with_position, with_texture, with_normal, with_face}
use Rattle.written.specs.Pieces.{Piece, a_position, a_texture, a_normal, a_face, the_end, with_marks, wide, count_length, pair}

-- a number that an f64 holds, and a coordinate of a file: one that is finite besides
abbrev pub is_double : Float → Bool
is_double x = fits binary64 x

abbrev pub is_coordinate : Float → Bool
is_coordinate x = is_double x && finite x

-- one that four bytes hold
abbrev pub is_word : ℕ → Bool
is_word n = ltb n 4294967296

-- coordinates are finite f64, corners have their numbers, of four bytes each, and a face has as many as a face may have
abbrev pub sayable : Piece → Bool
sayable (a_position p) = every is_coordinate (coordinates p)
sayable (a_texture t) = every is_coordinate (pair t)
sayable (a_normal p) = every is_coordinate (coordinates p)
sayable (a_face f) = sized f && (every is_corner f && every (every is_word) f)
sayable the_end = true

-- the reader's answer for a piece whose record stands at a place
abbrev pub answer_at : ℕ → Piece → Record
answer_at at (a_position p) = Position p
answer_at at (a_texture t) = Texture t
answer_at at (a_normal p) = Normal p
answer_at at (a_face f) = Face (at + header_length + count_length (wide (with_marks f) (length f))) (length f) (with_marks f)
answer_at at the_end = End

-- ---- what pieces draw

abbrev pub ends : Piece → Bool
ends (a_position p) = false
ends (a_texture t) = false
ends (a_normal p) = false
ends (a_face f) = false
ends the_end = true

-- one piece more
abbrev pub drawn_more : Piece → Drawn → Drawn
drawn_more (a_position p) d = with_position (coordinates p) d
drawn_more (a_texture t) d = with_texture (pair t) d
drawn_more (a_normal p) d = with_normal (coordinates p) d
drawn_more (a_face f) d = with_face f d
drawn_more the_end d = d

-- the coordinates of each attribute, and the faces, that a piece draws
abbrev pub positions_in : Piece → List Float
positions_in (a_position p) = coordinates p
positions_in (a_texture t) = []
positions_in (a_normal p) = []
positions_in (a_face f) = []
positions_in the_end = []

abbrev pub textures_in : Piece → List Float
textures_in (a_position p) = []
textures_in (a_texture t) = pair t
textures_in (a_normal p) = []
textures_in (a_face f) = []
textures_in the_end = []

abbrev pub normals_in : Piece → List Float
normals_in (a_position p) = []
normals_in (a_texture t) = []
normals_in (a_normal p) = coordinates p
normals_in (a_face f) = []
normals_in the_end = []

abbrev pub faces_in : Piece → List Ring
faces_in (a_position p) = []
faces_in (a_texture t) = []
faces_in (a_normal p) = []
faces_in (a_face f) = f ∷ []
faces_in the_end = []

-- pieces drawn one after the other
abbrev pub drawn_with : Drawn → List Piece → Drawn
drawn_with d ps = record {
  positions = d.positions ++ each positions_in ps;
  textures = d.textures ++ each textures_in ps;
  normals = d.normals ++ each normals_in ps;
  faces = d.faces ++ each faces_in ps;
}

-- what is drawn stays within the limits
pub record Roomy (d : Drawn) : Type 0 where
  pub positions : length d.positions ≤ point_numbers
  pub textures : length d.textures ≤ texel_numbers
  pub normals : length d.normals ≤ point_numbers
  pub corners : corner_count d.faces ≤ corner_limit
