-- One record of the panel file (added) is taken: what is drawn of a mesh grows by its values, or a refusal stops the reading there. As
-- document 01, 'The panel file and the sheet', has it. Assumes nothing.
use Rattle.std.specs.Prelude.{ℕ, ◌+◌, Bool, true, false, List, [], ◌∷◌, ◌++◌, length, ltb, Float}
use Rattle.mesh.specs.Limits.{corner_limit, point_numbers, texel_numbers}
use Rattle.mesh.specs.Mesh.{Ring}
use Rattle.grouping.specs.Push.{corner_count}
use Rattle.records.specs.declared.Record.{Record}
use Rattle.records.specs.declared.Record.TheVariants.{Position, Texture, Normal, Face, End, Refused}
use Rattle.records.specs.Records.{ring_from, number_of, values_of, end_of}

-- what has been drawn so far: coordinates, and the faces of three or more corners in the order they came
pub record Drawn : Type 0 where
  pub positions : List Float
  pub textures : List Float
  pub normals : List Float
  pub faces : List Ring

abbrev pub nothing : Drawn
nothing = record { positions = []; textures = []; normals = []; faces = [] }

-- how far the reading is: the next record's place, the number of a refusal, whether the end record was met, and what is drawn
pub record Reader : Type 0 where
  pub at : ℕ
  pub number : ℕ
  pub ended : Bool
  pub drawn : Drawn

abbrev pub reader : ℕ → ℕ → Bool → Drawn → Reader
reader at number ended drawn = record { at = at; number = number; ended = ended; drawn = drawn }

-- where a limit is passed the reader stops with 1, and nothing is drawn
abbrev pub limited : Bool → Reader → Reader → Reader
limited true old new = reader old.at 1 false old.drawn
limited false old new = new

abbrev pub with_position : List Float → Drawn → Drawn
with_position xs d = record { positions = d.positions ++ xs; textures = d.textures; normals = d.normals; faces = d.faces }

abbrev pub with_texture : List Float → Drawn → Drawn
with_texture xs d = record { positions = d.positions; textures = d.textures ++ xs; normals = d.normals; faces = d.faces }

abbrev pub with_normal : List Float → Drawn → Drawn
with_normal xs d = record { positions = d.positions; textures = d.textures; normals = d.normals ++ xs; faces = d.faces }

abbrev pub with_face : Ring → Drawn → Drawn
with_face f d = record { positions = d.positions; textures = d.textures; normals = d.normals; faces = d.faces ++ f ∷ [] }

-- a face of fewer than three corners is dropped: its indices aren't checked and its corners don't count
abbrev pub take_face : Bool → List ℕ → ℕ → ℕ → Bool → Reader → Reader
take_face true s a n m x = reader (end_of x.at (Face a n m)) 0 false x.drawn
take_face false s a n m x =
    limited (ltb corner_limit (corner_count x.drawn.faces + n)) x
    (reader (end_of x.at (Face a n m)) 0 false (with_face (ring_from m s n a) x.drawn))

-- one record is taken, with its values; a refusal stops the reading there, with its number
unfoldable pub take_record : List ℕ → Reader → Record → Reader
take_record s x (Position p) =
    limited (ltb point_numbers (length x.drawn.positions + 3)) x
    (reader (end_of x.at (Position p)) 0 false (with_position (values_of (Position p)) x.drawn))
take_record s x (Texture t) =
    limited (ltb texel_numbers (length x.drawn.textures + 2)) x
    (reader (end_of x.at (Texture t)) 0 false (with_texture (values_of (Texture t)) x.drawn))
take_record s x (Normal p) =
    limited (ltb point_numbers (length x.drawn.normals + 3)) x
    (reader (end_of x.at (Normal p)) 0 false (with_normal (values_of (Normal p)) x.drawn))
take_record s x (Face a n m) = take_face (ltb n 3) s a n m x
take_record s x End = reader (end_of x.at End) 0 true x.drawn
take_record s x (Refused n) = reader x.at (number_of (Refused n)) false x.drawn
