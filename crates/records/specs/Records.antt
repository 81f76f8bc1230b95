-- One record of the panel file (added), as document 01, 'The panel file and the sheet', has it. Assumes nothing.
use Rattle.std.specs.Prelude.{ℕ, zero, suc, ◌+◌, ◌*◌, ◌-◌, ◌%◌, ◌≤◌, ◌<◌, ◌≡◌, Bool, true, false, not, ◌&&◌, List, [], ◌∷◌, length, ltb, leb, eqb, Float}
use Rattle.std.specs.Float.Ieee.{of_bits}
use Rattle.std.specs.Float.{binary64}
use Rattle.lists.specs.Lists.{every, some}
use Rattle.little.specs.Little.{byte, half, word, long}
use Rattle.mesh.specs.Limits.{ring_limit}
use Rattle.mesh.specs.Mesh.{Corner, Ring, mark}
use Rattle.mesh.specs.Table.{when, first_of}
use Rattle.floating.specs.declared.Point.{Point}
use Rattle.floating.specs.declared.Texel.{Texel}
use Rattle.floating.specs.Limits.{finite}
use Rattle.floating.specs.Points.{point, texel, coordinates}
use Rattle.records.specs.Lengths.{header_length, coordinate_length, corner_length, marked_length, corner_size, point_length, texel_length, byte_count, wide_count}
use Rattle.records.specs.Lengths.{face_length, wide_face_length, marked_face_length, point_record, texel_record, count_most, byte_face_limit, wide_least, marked_least, last_kind}
use Rattle.records.specs.declared.Record.{Record}
use Rattle.records.specs.declared.Record.TheVariants.{Position, Texture, Normal, Face, End, Refused}

-- numbers are little-endian; a coordinate is the f64 of eight bytes
unfoldable pub coordinate : List ℕ → ℕ → Float
coordinate s i = of_bits binary64 (long s i)

unfoldable pub point_from : List ℕ → ℕ → Point
point_from s i = point (coordinate s i) (coordinate s (i + coordinate_length)) (coordinate s (i + 2 * coordinate_length))

unfoldable pub texel_from : List ℕ → ℕ → Texel
texel_from s i = texel (coordinate s i) (coordinate s (i + coordinate_length))

-- this paper's number for each answer: that of a refusal, 0 for every other
abbrev pub number_of : Record → ℕ
number_of (Position p) = 0
number_of (Texture t) = 0
number_of (Normal p) = 0
number_of (Face a n m) = 0
number_of End = 0
number_of (Refused n) = n

-- and its values: the coordinates of an attribute record, in the order of the file; none for every other
abbrev pub values_of : Record → List Float
values_of (Position p) = coordinates p
values_of (Texture t) = t.u ∷ t.v ∷ []
values_of (Normal p) = coordinates p
values_of (Face a n m) = []
values_of End = []
values_of (Refused n) = []

-- the length of a body by its kind: end 0, position 24, texture 16, normal 24, of a face 1 + 12m for some m up to 255, of a wide one
-- 2 + 12m for some m from 33 on, and of one with marks 2 + 16m for some m from 3 on
unfoldable pub length_fits : ℕ → ℕ → Bool
length_fits zero n = eqb n 0
length_fits (suc zero) n = eqb n point_length
length_fits (suc (suc zero)) n = eqb n texel_length
length_fits (suc (suc (suc zero))) n = eqb n point_length
length_fits (suc (suc (suc (suc zero)))) n = leb n (face_length count_most) && eqb (n % corner_length) byte_count
length_fits (suc (suc (suc (suc (suc zero))))) n = leb (wide_face_length wide_least) n && eqb (n % corner_length) wide_count
length_fits (suc (suc (suc (suc (suc (suc k)))))) n = leb (marked_face_length marked_least) n && eqb (n % marked_length) wide_count

-- a refusal where a number is given, else the record
abbrev pub unless : ℕ → Record → Record
unless zero r = r
unless (suc n) r = Refused (suc n)

-- a position, a texture point or a normal: a coordinate that is not finite gives 14
unfoldable pub attribute : Record → Record
attribute r = unless (when (not (every finite (values_of r))) 14) r

-- the mark at a place, of a face that carries marks; 0 of every other
abbrev pub mark_from : Bool → List ℕ → ℕ → ℕ
mark_from false s i = 0
mark_from true s i = word s i

-- the corner at a place: three four-byte numbers, and its mark behind them
abbrev pub corner_from : Bool → List ℕ → ℕ → Corner
corner_from marked s a = word s a ∷ word s (a + 4) ∷ word s (a + 8) ∷ mark_from marked s (a + corner_length) ∷ []

-- n corners from a place on
abbrev pub ring_from : Bool → List ℕ → ℕ → ℕ → Ring
ring_from marked s zero a = []
ring_from marked s (suc n) a = corner_from marked s a ∷ ring_from marked s n (a + corner_size marked)

-- a corner with a mark, and a face with any
abbrev pub has_mark : Corner → Bool
has_mark c = not (eqb (mark c) 0)

unfoldable pub any_mark : Ring → Bool
any_mark f = some has_mark f

-- a face of the kind that carries marks, and all of them are 0
abbrev pub lacks_marks : Bool → Ring → Bool
lacks_marks marked f = marked && not (any_mark f)

-- a face in a body of n bytes, whose count of w bytes says c corners, the first of them at a: c unlike the length's gives 12, no mark where
-- marks are carried gives 12, c over the limit gives 3
unfoldable pub counted : Bool → List ℕ → ℕ → ℕ → ℕ → ℕ → ℕ → Record
counted marked s w limit c a n =
    unless
    (first_of
    (when (not (eqb (w + corner_size marked * c) n)) 12
    ∷ when (lacks_marks marked (ring_from marked s c a)) 12
    ∷ when (ltb limit c) 3
    ∷ []))
    (Face a c marked)

-- kind 4: a byte, for up to 32 corners; kind 5: two bytes, for up to as many as a face may have; kind 6: as kind 5, with marks
unfoldable pub face_from : List ℕ → ℕ → ℕ → Record
face_from s b n = counted false s byte_count byte_face_limit (byte s b) (b + byte_count) n

unfoldable pub wide_face_from : List ℕ → ℕ → ℕ → Record
wide_face_from s b n = counted false s wide_count ring_limit (half s b) (b + wide_count) n

unfoldable pub marked_face_from : List ℕ → ℕ → ℕ → Record
marked_face_from s b n = counted true s wide_count ring_limit (half s b) (b + wide_count) n

-- the body of n bytes at b, by its kind
unfoldable pub body_from : List ℕ → ℕ → ℕ → ℕ → Record
body_from s b n zero = End
body_from s b n (suc zero) = attribute (Position (point_from s b))
body_from s b n (suc (suc zero)) = attribute (Texture (texel_from s b))
body_from s b n (suc (suc (suc zero))) = attribute (Normal (point_from s b))
body_from s b n (suc (suc (suc (suc zero)))) = face_from s b n
body_from s b n (suc (suc (suc (suc (suc zero))))) = wide_face_from s b n
body_from s b n (suc (suc (suc (suc (suc (suc k)))))) = marked_face_from s b n

-- the record at a place: two-byte length of its body, two-byte kind, body; header cut 11, kind 12, length 12, body cut 11
unfoldable pub record_from : List ℕ → ℕ → Record
record_from s at =
    let n = half s at in
    let kind = half s (at + 2) in
    let b = at + header_length in
    unless
    (first_of
    (when (ltb (length s - at) header_length) 11
    ∷ when (ltb last_kind kind) 12
    ∷ when (not (length_fits kind n)) 12
    ∷ when (ltb (length s - b) n) 11
    ∷ []))
    (body_from s b n kind)

-- where the record at a place ends; a refused one ends where it begins
abbrev pub end_of : ℕ → Record → ℕ
end_of at (Position p) = at + point_record
end_of at (Texture t) = at + texel_record
end_of at (Normal p) = at + point_record
end_of at (Face a n m) = a + corner_size m * n
end_of at End = at + header_length
end_of at (Refused n) = at

-- a face begins behind its header and its count, and has at most as many corners as a face may have; a refusal has a number
abbrev pub Placed : ℕ → Record → Type 0
Placed at (Position p) = Unit {0}
Placed at (Texture t) = Unit {0}
Placed at (Normal p) = Unit {0}
Placed at (Face a n m) = (at < a) × (n ≤ ring_limit)
Placed at End = Unit {0}
Placed at (Refused n) = n ≡ 0 → ⊥
