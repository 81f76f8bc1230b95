-- A mesh as a panel file: positions, texture points, normals, faces in their order, end (document 02, CR 1). Its records are those of
-- document 01, 'The panel file and the sheet'. Assumes nothing.
use Rattle.std.specs.Prelude.{ℕ, ◌+◌, ◌*◌, Bool, true, false, ◌||◌, List, [], ◌∷◌, ◌++◌, map, length, take, ltb, Float}
use Rattle.std.specs.Float.Ieee.{to_bits}
use Rattle.std.specs.Float.{binary64}
use Rattle.lists.specs.Lists.{each, sum}
use Rattle.little.specs.Little.{half_bytes, word_bytes, long_bytes}
use Rattle.mesh.specs.Limits.{entry_limit, face_limit, corner_numbers}
use Rattle.mesh.specs.Mesh.{Mesh, Corner, Ring, faces, position_count, texture_count, normal_count}
use Rattle.floating.specs.declared.Point.{Point}
use Rattle.floating.specs.declared.Texel.{Texel}
use Rattle.floating.specs.Limits.{all_finite}
use Rattle.floating.specs.Points.{texel, coordinates, points_of}
use Rattle.records.specs.Lengths.{header_length, corner_size, byte_face_limit, byte_count, wide_count, byte_kind, wide_kind, marked_kind}
use Rattle.records.specs.Records.{any_mark}

-- what one record says
pub data Piece : Type 0 where
  a_position : Point → Piece
  a_texture : Texel → Piece
  a_normal : Point → Piece
  a_face : Ring → Piece
  the_end : Piece

-- the texture points of a flat list, two coordinates each
abbrev pub texels_of : List Float → List Texel
texels_of [] = []
texels_of (a ∷ []) = []
texels_of (a ∷ b ∷ s) = texel a b ∷ texels_of s

abbrev pub pair : Texel → List Float
pair t = t.u ∷ t.v ∷ []

-- what a file says of a mesh before its end
unfoldable pub pieces_of : Mesh → List Piece
pieces_of m =
    map a_position (points_of m.positions) ++ (map a_texture (texels_of m.textures) ++ (map a_normal (points_of m.normals) ++ map a_face (faces m)))

-- every coordinate of a mesh is finite, in an entry that no corner uses too
abbrev pub finite_mesh : Mesh → Bool
finite_mesh m = all_finite m.positions m.textures m.normals

-- how many numbers of a corner stand before its mark
abbrev pub index_width : ℕ
index_width = 3

-- ---- one record

-- a face is said with its marks where any of them is not 0
abbrev pub with_marks : Ring → Bool
with_marks f = any_mark f

-- a face of n corners is wide where kind 4 does not hold it: where it has a mark, and from 33 corners on
abbrev pub wide : Bool → ℕ → Bool
wide marked n = marked || ltb byte_face_limit n

-- the writer picks the kind of a face: 6 where it has a mark; of every other 4, or 5 where it is wide
abbrev pub face_kind : Bool → Bool → ℕ
face_kind true w = marked_kind
face_kind false false = byte_kind
face_kind false true = wide_kind

-- kind 0: end; 1: position; 2: texture; 3: normal; 4, 5 and 6: face
abbrev pub kind_of : Piece → ℕ
kind_of (a_position p) = 1
kind_of (a_texture t) = 2
kind_of (a_normal p) = 3
kind_of (a_face f) = face_kind (with_marks f) (wide (with_marks f) (length f))
kind_of the_end = 0

-- a coordinate is the eight bytes of its bits, minus zero with its own
unfoldable pub coordinate_bytes : Float → List ℕ
coordinate_bytes x = long_bytes (to_bits binary64 x)

-- a corner is its numbers, four bytes each, and its mark is said where the face has one
unfoldable pub corner_bytes : Bool → Corner → List ℕ
corner_bytes true c = each word_bytes c
corner_bytes false c = each word_bytes (take index_width c)

-- how many corners a face has is said in one byte, in two where it is wide
unfoldable pub count_bytes : Bool → ℕ → List ℕ
count_bytes false n = n ∷ []
count_bytes true n = half_bytes n

abbrev pub count_length : Bool → ℕ
count_length false = byte_count
count_length true = wide_count

-- a face is a count n, then n corners
unfoldable pub body_of : Piece → List ℕ
body_of (a_position p) = each coordinate_bytes (coordinates p)
body_of (a_texture t) = each coordinate_bytes (pair t)
body_of (a_normal p) = each coordinate_bytes (coordinates p)
body_of (a_face f) = count_bytes (wide (with_marks f) (length f)) (length f) ++ each (corner_bytes (with_marks f)) f
body_of the_end = []

-- a record: two-byte length of its body, two-byte kind, body
unfoldable pub header_of : ℕ → ℕ → List ℕ
header_of n kind = half_bytes n ++ half_bytes kind

unfoldable pub record_of : Piece → List ℕ
record_of p = header_of (length (body_of p)) (kind_of p) ++ body_of p

-- ---- the file

unfoldable pub file_of : Mesh → List ℕ
file_of m = each record_of (pieces_of m) ++ record_of the_end

-- how long the record of a face of n corners is: its header, its count, and its corners
abbrev pub body_length : Bool → ℕ → ℕ
body_length marked n = count_length (wide marked n) + corner_size marked * n

unfoldable pub face_bytes : Ring → ℕ
face_bytes f = header_length + body_length (with_marks f) (length f)

-- how long the whole file is: four bytes before each body; then 24, 16 and 24 for the entries, what each face has, and none for the end
unfoldable pub file_length : Mesh → ℕ
file_length m = 28 * position_count m + 20 * texture_count m + 28 * normal_count m + sum (map face_bytes (faces m)) + 4

-- how long the largest file is that a mesh can make: every limit is full, and every face has a mark
abbrev pub file_limit : ℕ
file_limit = 28 * entry_limit + 20 * entry_limit + 28 * entry_limit + 6 * face_limit + 4 * corner_numbers + 4
