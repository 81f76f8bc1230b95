-- The scanner's own file, binary STL, as document 02, 'CR 8', has it: 80 bytes of header, a four-byte count, then 50 bytes a triangle
-- (normal, three points, all f32, and two bytes). Assumes nothing.
use Rattle.std.specs.Prelude.{ℕ, ◌+◌, ◌*◌, ◌/◌, ◌%◌, Bool, cond, not, List, [], ◌∷◌, map, ltb, eqb, length, replicate, Float}
use Rattle.std.specs.Float.{binary32}
use Rattle.std.specs.Float.Ieee.{of_bits}
use Rattle.lists.specs.Lists.{some, every, each, span}
use Rattle.lists.specs.FirstUses.{first_uses, place}
use Rattle.mesh.specs.Limits.{least_ring, entry_limit, face_limit}
use Rattle.mesh.specs.Mesh.{Mesh, mesh_of, Corner, missing}
use Rattle.mesh.specs.Table.{when, first_of, Lent, short}
use Rattle.floating.specs.Limits.{finite}
use Rattle.little.specs.Little.{word_values, word}

-- ---- where things stand

-- how many bytes the header has, and header and count together; a coordinate, a point, a normal; a triangle
abbrev pub header_bytes : ℕ
header_bytes = 80

abbrev pub front_bytes : ℕ
front_bytes = 84

abbrev pub coordinate_bytes : ℕ
coordinate_bytes = 4

abbrev pub point_bytes : ℕ
point_bytes = 12

abbrev pub normal_bytes : ℕ
normal_bytes = 12

abbrev pub field_bytes : ℕ
field_bytes = 2

abbrev pub triangle_bytes : ℕ
triangle_bytes = 50

-- how many triangles the file says that it has, and how many bytes so many ask
unfoldable pub scan_count : List ℕ → ℕ
scan_count s = word s header_bytes

abbrev pub scan_length : ℕ → ℕ
scan_length n = front_bytes + triangle_bytes * n

-- where point k begins, counted over all triangles: three stand in each, behind its normal
unfoldable pub point_place : ℕ → ℕ
point_place k = front_bytes + triangle_bytes * (k / least_ring) + normal_bytes + point_bytes * (k % least_ring)

-- ---- points

-- a negative zero is read as zero first
abbrev pub minus_zero : ℕ
minus_zero = 2147483648

unfoldable pub plain : ℕ → ℕ
plain n = cond (eqb n minus_zero) 0 n

-- a point is the bits of its three coordinates, side by side as one number: points with equal bits are equal numbers
unfoldable pub point : ℕ → ℕ → ℕ → ℕ
point x y z = x + word_values * (y + word_values * z)

unfoldable pub bits_of : ℕ → List ℕ
bits_of p = p % word_values ∷ p / word_values % word_values ∷ p / word_values / word_values ∷ []

-- the point whose bytes begin at i, and point k of the file
unfoldable pub point_from : List ℕ → ℕ → ℕ
point_from s i = point (plain (word s i)) (plain (word s (i + coordinate_bytes))) (plain (word s (i + 2 * coordinate_bytes)))

unfoldable pub point_at : List ℕ → ℕ → ℕ
point_at s k = point_from s (point_place k)

-- the points of all triangles, in the order of the file; normals and two-byte fields are passed over
unfoldable pub points_in : List ℕ → List ℕ
points_in s = map (point_at s) (span 0 (least_ring * scan_count s))

-- the f32 that 32 bits stand for. Widening loses nothing: an f64 has each of these numbers, and the coordinate is the very number
abbrev pub widened : ℕ → Float
widened n = of_bits binary32 n

unfoldable pub coordinates_of : ℕ → List Float
coordinates_of p = map widened (bits_of p)

-- a point is finite where each of its coordinates is
unfoldable pub not_finite : ℕ → Bool
not_finite p = not (every finite (coordinates_of p))

-- ---- the mesh

-- points with equal bits become one position, numbered by first appearance; corners get no texture, no normal and no mark
abbrev pub bare : ℕ → Corner
bare i = i ∷ missing ∷ missing ∷ 0 ∷ []

abbrev pub corner_of : List ℕ → ℕ → Corner
corner_of us p = bare (place us p)

-- every three points are a triangle, folded or not
unfoldable pub mesh_from : List ℕ → Mesh
mesh_from ps =
    mesh_of (each coordinates_of (first_uses ps)) [] [] (each (corner_of (first_uses ps)) ps) (replicate (length ps / least_ring) least_ring)

unfoldable pub scan_mesh : List ℕ → Mesh
scan_mesh s = mesh_from (points_in s)

-- ---- the number

-- 11, fewer than 84 bytes; 1, a count over 1,365; 11 or 13, the length is below or above what the count asks
abbrev pub length_rows : List ℕ → List ℕ
length_rows s =
    when (ltb (length s) front_bytes) 11
    ∷ when (ltb face_limit (scan_count s)) 1
    ∷ when (ltb (length s) (scan_length (scan_count s))) 11
    ∷ when (ltb (scan_length (scan_count s)) (length s)) 13
    ∷ []

unfoldable pub length_number : List ℕ → ℕ
length_number s = first_of (length_rows s)

-- 14, a point isn't finite; 1, more than 2,048 different positions
unfoldable pub points_number : List ℕ → ℕ
points_number ps = first_of (when (some not_finite ps) 14 ∷ when (ltb entry_limit (length (first_uses ps))) 1 ∷ [])

-- 9 first: room must be at the full limits
unfoldable pub scan_number : List Lent → List ℕ → ℕ
scan_number rooms s = first_of (when (short rooms) 9 ∷ length_number s ∷ points_number (points_in s) ∷ [])
