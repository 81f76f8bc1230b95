-- One written record is read back, in the middle of a file: stated once over the kinds. Assumes nothing.
use mathlib.Core.Path.{◌≡◌, refl, sym, ap, ◌∙◌}
use mathlib.Core.Bool.{Bool, true, false, not, ◌&&◌}
use mathlib.Core.List.{List, [], ◌∷◌, ◌++◌, append_assoc}
use Prim.Native.Nat.{ℕ, ◌+◌, ◌*◌, ◌-◌, ◌%◌, ◌≤◌, ◌<◌}
use native.Mathlib.Nat.{mod-eq_of_lt}
use native.Mathlib.Omega.{arith}
use lib.ListN.{length, drop, length-append, length-drop}
use lib.Dec.{leb, eqb}
use lib.Ieee.{Float}
use borrow.Author.Tests.{leb-true, ltb-true, ltb-false, eq-eqb, le-leb}
use Rattle.lists.specs.Lists.{every, each}
use Rattle.lists.proofs.Bools.{and_left, and_right, and_both, true_false}
use Rattle.little.specs.Little.{half, half_bytes}
use Rattle.little.proofs.Written.{behind, byte_here, length_half, half_written}
use Rattle.mesh.specs.Limits.{least_ring, ring_limit}
use Rattle.mesh.specs.Mesh.{Ring}
use Rattle.mesh.proofs.Corners.{is_corner}
use Rattle.grouping.proofs.Accepting.{sized}
use Rattle.floating.specs.Limits.{finite}
use Rattle.floating.specs.Points.{coordinates}
use Rattle.records.specs.declared.Record.TheVariants.{Position, Texture, Normal, Face}
use Rattle.records.specs.Lengths.{corner_size, byte_count, wide_count, face_length, wide_face_length, marked_face_length, count_most, byte_face_limit, wide_least, marked_least, last_kind}
use Rattle.records.specs.Records.{length_fits, attribute, ring_from, any_mark, lacks_marks, counted, face_from, wide_face_from, marked_face_from, body_from, record_from}
use Rattle.records.proofs.Recorded.{body_whole, attribute_good, face_good}
use Rattle.records.proofs.Ringing.{size_most}
use Rattle.written.specs.Pieces.{Piece, a_position, a_texture, a_normal, a_face, the_end, with_marks, wide, face_kind, count_bytes}
use Rattle.written.specs.Pieces.{count_length, corner_bytes, kind_of, header_of, body_of, record_of, body_length, pair}
use Rattle.written.proofs.Lengths.{length_coordinates, count_few, length_count, length_face}
use Rattle.written.specs.Said.{is_double, is_coordinate, is_word, sayable, answer_at}
use Rattle.written.specs.Promises.{RecordReopens}
use Rattle.written.proofs.Bodies.{ring_back, point_back, texel_back}

-- ---- the length of a body

-- its length by its kind
abbrev pub length_of : Piece → ℕ
length_of (a_position p) = 24
length_of (a_texture t) = 16
length_of (a_normal p) = 24
length_of (a_face f) = body_length (with_marks f) (length f)
length_of the_end = 0

pub length_body : (p : Piece) → sayable p ≡ true → length (body_of p) ≡ length_of p
unfolding body_of
length_body (a_position p) w = length_coordinates (coordinates p)
length_body (a_texture t) w = length_coordinates (pair t)
length_body (a_normal p) w = length_coordinates (coordinates p)
length_body (a_face f) w =
    length_face f (and_left (every is_corner f) (every (every is_word) f) (and_right (sized f) (every is_corner f && every (every is_word) f) w))
length_body the_end w = refl

face_size : (f : Ring) → sized f ≡ true → (3 ≤ length f) × (length f ≤ ring_limit)
face_size f h = (leb-true 3 (length f) (and_left (leb 3 (length f)) (leb (length f) ring_limit) h), leb-true (length f) ring_limit (and_right (leb 3 (length f)) (leb (length f) ring_limit) h))

pub small_face : (f : Ring) → sayable (a_face f) ≡ true → (3 ≤ length f) × (length f ≤ ring_limit)
small_face f w = face_size f (and_left (sized f) (every is_corner f && every (every is_word) f) w)

small_body : (p : Piece) → sayable p ≡ true → length_of p < 65536
small_body (a_position p) w = omega arith
small_body (a_texture t) w = omega arith
small_body (a_normal p) w = omega arith
small_body (a_face f) w =
    omega (arith, (small_face f w).1, count_few (wide (with_marks f) (length f)), size_most (with_marks f) (length f))
small_body the_end w = omega arith

-- of a face by the kind that the writer picks
right_face :
    (n : ℕ) (m b : Bool) → wide m n ≡ b → least_ring ≤ n → n ≤ ring_limit → length_fits (face_kind m b) (count_length b + corner_size m * n) ≡ true
unfolding length_fits
right_face n false false e s l =
    let few : n ≤ byte_face_limit = omega (arith, ltb-false _ n e) in
    let k = face_length n in
    and_both (leb k (face_length count_most)) (eqb (k % 12) 1) (le-leb k (face_length count_most) (omega arith)) (eq-eqb (k % 12) 1 (omega arith))
right_face n false true e s l =
    let many : byte_face_limit < n = omega (arith, ltb-true _ n e) in
    let k = wide_face_length n in
    and_both (leb (wide_face_length wide_least) k) (eqb (k % 12) 2) (le-leb (wide_face_length wide_least) k (omega arith)) (eq-eqb (k % 12) 2 (omega arith))
right_face n true false e s l = true_false e
right_face n true true e s l =
    let k = marked_face_length n in
    and_both (leb (marked_face_length marked_least) k) (eqb (k % 16) 2) (le-leb (marked_face_length marked_least) k (omega arith)) (eq-eqb (k % 16) 2 (omega arith))

right_length : (p : Piece) → sayable p ≡ true → length_fits (kind_of p) (length_of p) ≡ true
unfolding length_fits
right_length (a_position p) w = refl
right_length (a_texture t) w = refl
right_length (a_normal p) w = refl
right_length (a_face f) w = right_face (length f) (with_marks f) (wide (with_marks f) (length f)) refl (small_face f w).0 (small_face f w).1
right_length the_end w = refl

known_face : (m b : Bool) → face_kind m b ≤ last_kind
known_face true b = omega arith
known_face false false = omega arith
known_face false true = omega arith

known_kind : (p : Piece) → kind_of p ≤ last_kind
known_kind (a_position p) = omega arith
known_kind (a_texture t) = omega arith
known_kind (a_normal p) = omega arith
known_kind (a_face f) = known_face (with_marks f) (wide (with_marks f) (length f))
known_kind the_end = omega arith

-- ---- the header

module _ (s : List ℕ) (at : ℕ) (p : Piece) (r : List ℕ) (w : sayable p ≡ true) (h : drop at s ≡ record_of p ++ r) where
  header_stands : drop at s ≡ half_bytes (length (body_of p)) ++ (half_bytes (kind_of p) ++ (body_of p ++ r))
  unfolding record_of header_of
  header_stands =
      h ∙ append_assoc (half_bytes (length (body_of p)) ++ half_bytes (kind_of p)) (body_of p) r
      ∙ append_assoc (half_bytes (length (body_of p))) (half_bytes (kind_of p)) (body_of p ++ r)

  kind_stands : drop (at + 2) s ≡ half_bytes (kind_of p) ++ (body_of p ++ r)
  kind_stands = behind s at 2 (half_bytes (length (body_of p))) (half_bytes (kind_of p) ++ (body_of p ++ r)) (length_half (length (body_of p))) header_stands

  pub body_stands : drop (at + 4) s ≡ body_of p ++ r
  body_stands =
      let e : at + 4 ≡ at + 2 + 2 = omega arith in
      ap (λ (i : ℕ). drop i s) e ∙ behind s (at + 2) 2 (half_bytes (kind_of p)) (body_of p ++ r) (length_half (kind_of p)) kind_stands

  length_read : half s at ≡ length_of p
  length_read =
      half_written s at (length (body_of p)) (half_bytes (kind_of p) ++ (body_of p ++ r)) header_stands
      ∙ ap (λ (n : ℕ). n % 65536) (length_body p w) ∙ mod-eq_of_lt (small_body p w)

  kind_read : half s (at + 2) ≡ kind_of p
  kind_read = half_written s (at + 2) (kind_of p) (body_of p ++ r) kind_stands ∙ mod-eq_of_lt (let l : kind_of p ≤ last_kind = known_kind p in omega arith)

  -- the file goes on at least to the end of the body
  header_fits : 4 ≤ length s - at
  header_fits =
      let n = half_bytes (length (body_of p)) in
      let k = half_bytes (kind_of p) in
      let l : length s - at ≡ length (n ++ (k ++ (body_of p ++ r))) = sym (length-drop at s) ∙ ap length header_stands in
      omega (arith, l, length-append n (k ++ (body_of p ++ r)), length-append k (body_of p ++ r), length_half (length (body_of p)), length_half (kind_of p))

  body_fits : length_of p ≤ length s - (at + 4)
  body_fits = omega (arith, sym (length-drop (at + 4) s) ∙ ap length body_stands, length-append (body_of p) r, length_body p w)

  header_back : record_from s at ≡ body_from s (at + 4) (length_of p) (kind_of p)
  header_back = sym (body_whole s at (length_of p) (kind_of p) header_fits (sym length_read) (sym kind_read) (known_kind p) (ap not (right_length p w)) body_fits)

-- ---- the body, by its kind

-- where a face's corners begin
pub corners_stand :
    (s : List ℕ) (at : ℕ) (f : Ring) (r : List ℕ) → drop (at + 4) s ≡ body_of (a_face f) ++ r
    → drop (at + 4 + count_length (wide (with_marks f) (length f))) s ≡ each (corner_bytes (with_marks f)) f ++ r
unfolding body_of
corners_stand s at f r h =
    let n = length f in
    let b = wide (with_marks f) n in
    let c = count_bytes b n in
    let cs = each (corner_bytes (with_marks f)) f in
    behind s (at + 4) (count_length b) c (cs ++ r) (length_count b n) (h ∙ append_assoc c cs r)

-- and its corners come back
pub corners_back :
    (s : List ℕ) (at : ℕ) (f : Ring) (r : List ℕ) → sayable (a_face f) ≡ true → drop (at + 4) s ≡ body_of (a_face f) ++ r
    → ring_from (with_marks f) s (length f) (at + 4 + count_length (wide (with_marks f) (length f))) ≡ f
unfolding any_mark
corners_back s at f r w h =
    let v : (every is_corner f && every (every is_word) f) ≡ true = and_right (sized f) (every is_corner f && every (every is_word) f) w in
    ring_back (with_marks f) s (at + 4 + count_length (wide (with_marks f) (length f))) f r (and_left (every is_corner f) (every (every is_word) f) v)
    (and_right (every is_corner f) (every (every is_word) f) v) (λ e. e) (corners_stand s at f r h)

-- its count, by the kind that the writer picks; where marks are carried there is one
face_back :
    (s : List ℕ) (i n : ℕ) (m b : Bool) (r : List ℕ) → wide m n ≡ b → n ≤ ring_limit → drop i s ≡ count_bytes b n ++ r
    → lacks_marks m (ring_from m s n (i + count_length b)) ≡ false
    → body_from s i (count_length b + corner_size m * n) (face_kind m b) ≡ Face (i + count_length b) n m
unfolding body_from face_from wide_face_from marked_face_from count_bytes
face_back s i n false false r e l h k =
    ap (λ (c : ℕ). counted false s byte_count byte_face_limit c (i + byte_count) (face_length n)) (byte_here s i n r h)
    ∙ sym (face_good false s byte_count byte_face_limit n (i + byte_count) (face_length n) refl k (omega (arith, ltb-false _ n e)))
face_back s i n false true r e l h k =
    ap (λ (c : ℕ). counted false s wide_count ring_limit c (i + wide_count) (wide_face_length n)) (half_written s i n r h ∙ mod-eq_of_lt (omega arith))
    ∙ sym (face_good false s wide_count ring_limit n (i + wide_count) (wide_face_length n) refl k l)
face_back s i n true false r e l h k = true_false e
face_back s i n true true r e l h k =
    ap (λ (c : ℕ). counted true s wide_count ring_limit c (i + wide_count) (marked_face_length n)) (half_written s i n r h ∙ mod-eq_of_lt (omega arith))
    ∙ sym (face_good true s wide_count ring_limit n (i + wide_count) (marked_face_length n) refl k l)

not_both : (b : Bool) → (b && not b) ≡ false
not_both false = refl
not_both true = refl

are_finite : (l : List Float) → every is_coordinate l ≡ true → every finite l ≡ true
are_finite [] h = refl
are_finite (x ∷ l) h =
    and_both (finite x) (every finite l) (and_right (is_double x) (finite x) (and_left (is_coordinate x) (every is_coordinate l) h))
    (are_finite l (and_right (is_coordinate x) (every is_coordinate l) h))

body_back : (s : List ℕ) (at : ℕ) (p : Piece) (r : List ℕ) → sayable p ≡ true → drop (at + 4) s ≡ body_of p ++ r → body_from s (at + 4) (length_of p) (kind_of p) ≡ answer_at at p
unfolding body_from body_of
body_back s at (a_position p) r w h =
    ap (λ q. attribute (Position q)) (point_back s (at + 4) p r w h) ∙ sym (attribute_good (Position p) _ refl (are_finite (coordinates p) w))
body_back s at (a_texture t) r w h =
    ap (λ q. attribute (Texture q)) (texel_back s (at + 4) t r w h) ∙ sym (attribute_good (Texture t) _ refl (are_finite (pair t) w))
body_back s at (a_normal p) r w h =
    ap (λ q. attribute (Normal q)) (point_back s (at + 4) p r w h) ∙ sym (attribute_good (Normal p) _ refl (are_finite (coordinates p) w))
body_back s at (a_face f) r w h =
    let n = length f in
    let m = with_marks f in
    let c = count_bytes (wide m n) n in
    let cs = each (corner_bytes m) f in
    face_back s (at + 4) n m (wide m n) (cs ++ r) refl (small_face f w).1 (h ∙ append_assoc c cs r)
    (ap (lacks_marks m) (corners_back s at f r w h) ∙ not_both m)
body_back s at the_end r w h = refl

-- the record that was written for a piece is read as that piece, wherever it stands
pub record_back : RecordReopens
record_back s at p r w h = header_back s at p r w h ∙ body_back s at p r w (body_stands s at p r w h)
