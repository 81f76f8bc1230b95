-- How many bytes the parts of a panel file have, each named once, as document 01, 'The panel file and the sheet', has them. Assumes nothing.
use Rattle.std.specs.Prelude.{ℕ, ◌+◌, ◌*◌, Bool, true, false}
use Rattle.mesh.specs.Limits.{least_ring}

-- a header: two-byte length, two-byte kind
abbrev pub header_length : ℕ
header_length = 4

-- a coordinate, an f64; a corner, three four-byte numbers, and one more, its mark, in a face that carries marks
abbrev pub coordinate_length : ℕ
coordinate_length = 8

abbrev pub corner_length : ℕ
corner_length = 12

abbrev pub marked_length : ℕ
marked_length = 16

-- a corner of a face by whether the face carries marks
abbrev pub corner_size : Bool → ℕ
corner_size false = corner_length
corner_size true = marked_length

-- how many corners a face has: one byte in kind 4, two in kinds 5 and 6
abbrev pub byte_count : ℕ
byte_count = 1

abbrev pub wide_count : ℕ
wide_count = 2

-- the body of a position or a normal, of a texture point, and of a face of n corners: a count n, then n corners
abbrev pub point_length : ℕ
point_length = 3 * coordinate_length

abbrev pub texel_length : ℕ
texel_length = 2 * coordinate_length

abbrev pub face_length : ℕ → ℕ
face_length n = byte_count + corner_length * n

abbrev pub wide_face_length : ℕ → ℕ
wide_face_length n = wide_count + corner_length * n

abbrev pub marked_face_length : ℕ → ℕ
marked_face_length n = wide_count + marked_length * n

-- the records of these bodies, with their header
abbrev pub point_record : ℕ
point_record = header_length + point_length

abbrev pub texel_record : ℕ
texel_record = header_length + texel_length

-- the most corners that a byte can say, and the most that a face of kind 4 may have
abbrev pub count_most : ℕ
count_most = 255

abbrev pub byte_face_limit : ℕ
byte_face_limit = 32

-- the fewest that a face of kind 5 has, one more than kind 4 holds, and the fewest of kind 6
abbrev pub wide_least : ℕ
wide_least = 1 + byte_face_limit

abbrev pub marked_least : ℕ
marked_least = least_ring

-- the kinds of a face: its count is a byte, or two, or two and its corners carry marks; no kind comes behind them
abbrev pub byte_kind : ℕ
byte_kind = 4

abbrev pub wide_kind : ℕ
wide_kind = 5

abbrev pub marked_kind : ℕ
marked_kind = 6

abbrev pub last_kind : ℕ
last_kind = marked_kind
