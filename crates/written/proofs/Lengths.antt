-- How many bytes each part of a record has; and the record of a face by the flat list of its corners. Assumes nothing.
use mathlib.Core.Path.{◌≡◌, refl, sym, ap, ap₂, ◌∙◌}
use mathlib.Core.Bool.{Bool, true, false}
use mathlib.Core.List.{List, [], ◌∷◌, ◌++◌}
use Prim.Native.Nat.{ℕ, ◌+◌, ◌*◌, ◌/◌, ◌≤◌}
use native.Mathlib.Nat.{mul-zero, mul-suc, add_comm}
use native.Mathlib.Omega.{arith}
use lib.ListN.{length, take, length-append}
use lib.Seq.{length-take-le}
use lib.Ieee.{Float}
use borrow.Author.Tests.{eqb-true}
use Rattle.lists.specs.Lists.{each, every}
use Rattle.lists.proofs.Bools.{and_left, and_right}
use Rattle.little.specs.Little.{half_bytes, word_bytes}
use Rattle.little.proofs.Written.{length_half, length_word, length_long}
use Rattle.mesh.specs.Limits.{width}
use Rattle.mesh.specs.Mesh.{Corner, Ring, corners_in}
use Rattle.mesh.proofs.Corners.{is_corner, length-corners_in, corners-corners_in}
use Rattle.records.specs.Lengths.{header_length, corner_size, wide_count}
use Rattle.written.specs.Pieces.{a_face, with_marks, wide, face_kind, kind_of, count_bytes, count_length, coordinate_bytes, index_width, corner_bytes, header_of, body_of, record_of, body_length, face_bytes}
use Rattle.written.specs.Parts.{entry_record, face_record}

-- ---- as many bytes for each

module _ {A : Type 0} (f : A → List ℕ) (n : ℕ) (h : (a : A) → length (f a) ≡ n) where
  pub length_each : (l : List A) → length (each f l) ≡ n * length l
  length_each [] = sym (mul-zero n)
  length_each (a ∷ l) =
      length-append (f a) (each f l) ∙ ap₂ (λ (x y : ℕ). x + y) (h a) (length_each l)
      ∙ add_comm n (n * length l) ∙ sym (mul-suc n (length l))

-- ---- a header, a coordinate, an entry

pub length_header : (n kind : ℕ) → length (header_of n kind) ≡ 4
unfolding header_of
length_header n kind = omega (arith, length-append (half_bytes n) (half_bytes kind), length_half n, length_half kind)

pub length_coordinate : (x : Float) → length (coordinate_bytes x) ≡ 8
unfolding coordinate_bytes
length_coordinate x = length_long _

pub length_coordinates : (l : List Float) → length (each coordinate_bytes l) ≡ 8 * length l
length_coordinates = length_each coordinate_bytes 8 length_coordinate

pub length_entry : (kind : ℕ) (l : List Float) → length (entry_record kind l) ≡ 4 + 8 * length l
unfolding entry_record
length_entry kind l =
    omega (arith, length-append (header_of (8 * length l) kind) (each coordinate_bytes l), length_header (8 * length l) kind, length_coordinates l)

-- ---- corners, and a face

pub length_words : (c : List ℕ) → length (each word_bytes c) ≡ 4 * length c
length_words = length_each word_bytes 4 length_word

-- a corner, with its mark or without it, and a ring of them
pub length_corner : (m : Bool) (c : Corner) → is_corner c ≡ true → length (corner_bytes m c) ≡ corner_size m
unfolding corner_bytes
length_corner true c h = length_words c ∙ ap (λ (n : ℕ). 4 * n) (eqb-true (length c) width h)
length_corner false c h =
    let e : length c ≡ width = eqb-true (length c) width h in
    length_words (take index_width c) ∙ ap (λ (n : ℕ). 4 * n) (length-take-le index_width c (omega arith))

pub length_ring : (m : Bool) (f : Ring) → every is_corner f ≡ true → length (each (corner_bytes m) f) ≡ corner_size m * length f
length_ring m [] h = sym (mul-zero (corner_size m))
length_ring m (c ∷ f) h =
    length-append (corner_bytes m c) (each (corner_bytes m) f)
    ∙ ap₂ (λ (x y : ℕ). x + y) (length_corner m c (and_left (is_corner c) (every is_corner f) h)) (length_ring m f (and_right (is_corner c) (every is_corner f) h))
    ∙ add_comm (corner_size m) (corner_size m * length f)
    ∙ sym (mul-suc (corner_size m) (length f))

-- the count of a face
pub count_few : (b : Bool) → count_length b ≤ wide_count
count_few false = omega arith
count_few true = omega arith

pub length_count : (b : Bool) (n : ℕ) → length (count_bytes b n) ≡ count_length b
unfolding count_bytes
length_count false n = refl
length_count true n = length_half n

-- a face, and its record
pub length_face : (f : Ring) → every is_corner f ≡ true → length (body_of (a_face f)) ≡ body_length (with_marks f) (length f)
unfolding body_of
length_face f h =
    let m = with_marks f in
    let n = length f in
    omega (arith, length-append (count_bytes (wide m n) n) (each (corner_bytes m) f), length_count (wide m n) n, length_ring m f h)

pub length_face_record : (f : Ring) → every is_corner f ≡ true → length (face_record f) ≡ face_bytes f
unfolding face_record record_of face_bytes
length_face_record f h =
    let p = a_face f in
    omega (arith, length-append (header_of (length (body_of p)) (kind_of p)) (body_of p), length_header (length (body_of p)) (kind_of p), length_face f h)

-- the two parts in front of the corners of a face: the header, and how many corners; and its corners
module _ (part : List ℕ) where
  abbrev pub corners : ℕ
  corners = length part / width

  abbrev pub marked : Bool
  marked = with_marks (corners_in part)

  abbrev pub header : List ℕ
  header = header_of (body_length marked corners) (face_kind marked (wide marked corners))

  abbrev pub counted : List ℕ
  counted = count_bytes (wide marked corners) corners

  abbrev pub numbers : List ℕ
  numbers = each (corner_bytes marked) (corners_in part)

  -- the record of the face of a part
  pub face_bytes_lem : face_record (corners_in part) ≡ header ++ (counted ++ numbers)
  unfolding face_record record_of body_of
  face_bytes_lem =
      ap (λ (k : ℕ). header_of k (kind_of (a_face (corners_in part))) ++ body_of (a_face (corners_in part))) (length_face (corners_in part) (corners-corners_in part))
      ∙ ap (λ (k : ℕ). header_of (body_length marked k) (face_kind marked (wide marked k)) ++ (count_bytes (wide marked k) k ++ numbers)) (length-corners_in part)

  pub length_part : length (face_record (corners_in part)) ≡ header_length + body_length marked corners
  unfolding face_bytes
  length_part =
      length_face_record (corners_in part) (corners-corners_in part) ∙ ap (λ (k : ℕ). header_length + body_length marked k) (length-corners_in part)

  pub length_numbers : length numbers ≡ corner_size marked * corners
  length_numbers = length_ring marked (corners_in part) (corners-corners_in part) ∙ ap (λ (k : ℕ). corner_size marked * k) (length-corners_in part)
