-- The format the other way: the file of a header and of triangles, each with a normal and a two-byte field that nobody reads. Assumes
-- nothing.
use Rattle.std.specs.Prelude.{ℕ, zero, suc, ◌+◌, ◌*◌, ◌<◌, ◌≡◌, List, [], ◌∷◌, ◌++◌, map, length, get_or, take, drop}
use Rattle.lists.specs.Lists.{each, span}
use Rattle.little.specs.Little.{word_values, word, word_bytes}
use Rattle.scanned.specs.Scan.{front_bytes, coordinate_bytes, normal_bytes, field_bytes, triangle_bytes, scan_count, plain, point}

-- a triangle as the file has it: the bytes of its normal, the bits of the nine coordinates of its points, and two bytes
pub record Triangle : Type 0 where
  pub normal : List ℕ
  pub bits : List ℕ
  pub field : List ℕ

-- how many coordinates the points of a triangle have
abbrev pub nine : ℕ
nine = 9

pub record Formed (t : Triangle) : Type 0 where
  pub normal_long : length t.normal ≡ normal_bytes
  pub bits_long : length t.bits ≡ nine
  pub bits_below : (k : ℕ) → get_or t.bits k 0 < word_values
  pub field_long : length t.field ≡ field_bytes

-- the bytes of a triangle, and of a file: a header, the count, the triangles
unfoldable pub bytes_of : Triangle → List ℕ
bytes_of t = t.normal ++ (each word_bytes t.bits ++ t.field)

unfoldable pub file_of : List ℕ → List Triangle → List ℕ
file_of header ts = header ++ (word_bytes (length ts) ++ each bytes_of ts)

-- the points of a triangle
abbrev pub point_of : Triangle → ℕ → ℕ → ℕ → ℕ
point_of t a b c = point (plain (get_or t.bits a 0)) (plain (get_or t.bits b 0)) (plain (get_or t.bits c 0))

unfoldable pub points_of : Triangle → List ℕ
points_of t = point_of t 0 1 2 ∷ point_of t 3 4 5 ∷ point_of t 6 7 8 ∷ []

-- ---- back: the triangles that stand in a file

-- the words from place i on, n of them
unfoldable pub words_from : List ℕ → ℕ → ℕ → List ℕ
words_from s i zero = []
words_from s i (suc n) = word s i ∷ words_from s (i + coordinate_bytes) n

-- triangle k, and all that the count says
abbrev pub triangle_from : List ℕ → ℕ → Triangle
triangle_from s i = record {
  normal = take normal_bytes (drop i s);
  bits = words_from s (i + normal_bytes) nine;
  field = take field_bytes (drop (i + normal_bytes + nine * coordinate_bytes) s);
}

abbrev pub triangle_place : ℕ → ℕ
triangle_place k = front_bytes + triangle_bytes * k

unfoldable pub triangles_in : List ℕ → List Triangle
triangles_in s = map (λ (k : ℕ). triangle_from s (triangle_place k)) (span 0 (scan_count s))

-- what stands where there is none
abbrev pub no_triangle : Triangle
no_triangle = record { normal = []; bits = []; field = [] }
