-- The format both ways: a file of triangles is read as their points; and a file as long as its count asks is the file of its triangles.
-- Assumes nothing.
use mathlib.Core.Path.{◌≡◌, refl, sym, ap, ap₂, ◌∙◌, subst}
use mathlib.Core.List.{List, [], ◌∷◌, ◌++◌, map, append_assoc}
use Prim.Native.Nat.{ℕ, zero, suc, ◌+◌, ◌*◌, ◌/◌, ◌%◌, ◌-◌, ◌≤◌, ◌<◌}
use native.Mathlib.Nat.{not-suc-le-zero, le_of_suc-le-suc, mod-eq_of_lt}
use native.Mathlib.Omega.{arith}
use lib.ListN.{length, get_or, take, drop, length-append, length-drop, take-append-drop}
use lib.Seq.{drop_at, drop-drop, drop-cons, drop-length, length-take-le}
use borrow.Author.Tests.{le-ltb}
use Rattle.lists.specs.Lists.{each, span}
use Rattle.lists.proofs.Buckets.{length_table, table_at, each_span_cong}
use Rattle.lists.proofs.Mapping.{each_map, map_span}
use Rattle.mesh.specs.Limits.{face_limit}
use Rattle.little.specs.Little.{word_values, word, half, word_bytes, Bytes}
use Rattle.little.proofs.Written.{length_word, behind, word_written, word_again}
use Rattle.scanned.specs.Scan.{header_bytes, front_bytes, coordinate_bytes, normal_bytes, field_bytes, triangle_bytes, scan_count, scan_length}
use Rattle.scanned.specs.Scan.{point_place, plain, point, point_from, point_at, points_in, length_number}
use Rattle.scanned.specs.Format.{Triangle, Formed, nine, bytes_of, file_of, point_of, points_of, words_from, triangle_from, triangle_place, triangles_in, no_triangle}
use Rattle.scanned.proofs.Lengths.{right}
use Rattle.scanned.specs.Promises.{AllFormed, WrittenIsRead, ReadIsWritten}

-- ---- words one behind the other

length_words : (l : List ℕ) → length (each word_bytes l) ≡ 4 * length l
length_words [] = refl
length_words (x ∷ l) =
    let e : length (each word_bytes l) ≡ 4 * length l = length_words l in
    let n : length (word_bytes x ++ each word_bytes l) ≡ length (word_bytes x) + length (each word_bytes l) = length-append (word_bytes x) (each word_bytes l) in
    let k : length (word_bytes x) ≡ 4 = length_word x in
    omega arith

-- word c of those that stand at i
word_at :
    (s : List ℕ) (i : ℕ) (l r : List ℕ) (c : ℕ) → c < length l → get_or l c 0 < word_values → drop i s ≡ each word_bytes l ++ r
    → word s (i + 4 * c) ≡ get_or l c 0
word_at s i [] r c h b e = absurd (not-suc-le-zero h)
word_at s i (x ∷ l) r zero h b e =
    let z : i + 4 * 0 ≡ i = omega arith in
    ap (word s) z
    ∙ word_written s i x (each word_bytes l ++ r) (e ∙ append_assoc (word_bytes x) (each word_bytes l) r)
    ∙ mod-eq_of_lt b
word_at s i (x ∷ l) r (suc c) h b e =
    let z : i + 4 * suc c ≡ i + 4 + 4 * c = omega arith in
    ap (word s) z
    ∙ word_at s (i + 4) l r c (le_of_suc-le-suc h) b
    (behind s i 4 (word_bytes x) (each word_bytes l ++ r) (length_word x) (e ∙ append_assoc (word_bytes x) (each word_bytes l) r))

-- ---- a triangle

-- where its points begin
module _ (k : ℕ) where
  first_place : point_place (3 * k) ≡ triangle_place k + normal_bytes + 4 * 0
  unfolding point_place
  first_place = let a : 3 * k / 3 ≡ k = omega arith in let b : 3 * k % 3 ≡ 0 = omega arith in omega arith

  second_place : point_place (3 * k + 1) ≡ triangle_place k + normal_bytes + 4 * 3
  unfolding point_place
  second_place = let a : (3 * k + 1) / 3 ≡ k = omega arith in let b : (3 * k + 1) % 3 ≡ 1 = omega arith in omega arith

  third_place : point_place (3 * k + 2) ≡ triangle_place k + normal_bytes + 4 * 6
  unfolding point_place
  third_place = let a : (3 * k + 2) / 3 ≡ k = omega arith in let b : (3 * k + 2) % 3 ≡ 2 = omega arith in omega arith

module _ (t : Triangle) (f : Formed t) where
  length_bytes : length (bytes_of t) ≡ triangle_bytes
  unfolding bytes_of
  length_bytes =
      let a : length (t.normal ++ (each word_bytes t.bits ++ t.field)) ≡ length t.normal + length (each word_bytes t.bits ++ t.field) =
      length-append t.normal (each word_bytes t.bits ++ t.field) in
      let b : length (each word_bytes t.bits ++ t.field) ≡ length (each word_bytes t.bits) + length t.field =
      length-append (each word_bytes t.bits) t.field in
      let c : length (each word_bytes t.bits) ≡ 4 * length t.bits = length_words t.bits in
      omega (arith, f.normal_long, f.bits_long, f.field_long)

  -- the words of a triangle that stands at i
  bit_at : (s : List ℕ) (i : ℕ) (r : List ℕ) (c : ℕ) → c < nine → drop i s ≡ bytes_of t ++ r → word s (i + normal_bytes + 4 * c) ≡ get_or t.bits c 0
  unfolding bytes_of
  bit_at s i r c h e =
      let a : drop i s ≡ t.normal ++ ((each word_bytes t.bits ++ t.field) ++ r) =
      e ∙ append_assoc t.normal (each word_bytes t.bits ++ t.field) r in
      let b : drop (i + normal_bytes) s ≡ (each word_bytes t.bits ++ t.field) ++ r =
      behind s i normal_bytes t.normal ((each word_bytes t.bits ++ t.field) ++ r) f.normal_long a in
      word_at s (i + normal_bytes) t.bits (t.field ++ r) c (omega (arith, f.bits_long)) (f.bits_below c)
      (b ∙ append_assoc (each word_bytes t.bits) t.field r)

  -- one of its points, where it begins at word c
  point_is :
      (s : List ℕ) (k j c : ℕ) (r : List ℕ) → c + 2 < nine → point_place j ≡ triangle_place k + normal_bytes + 4 * c
      → drop (triangle_place k) s ≡ bytes_of t ++ r → point_at s j ≡ point_of t c (c + 1) (c + 2)
  unfolding point_at point_from
  point_is s k j c r h q e =
      let a : word s (point_place j) ≡ get_or t.bits c 0 = ap (word s) q ∙ bit_at s (triangle_place k) r c (omega arith) e in
      let z1 : point_place j + coordinate_bytes ≡ triangle_place k + normal_bytes + 4 * (c + 1) = omega arith in
      let z2 : point_place j + 2 * coordinate_bytes ≡ triangle_place k + normal_bytes + 4 * (c + 2) = omega arith in
      let b : word s (point_place j + coordinate_bytes) ≡ get_or t.bits (c + 1) 0 = ap (word s) z1 ∙ bit_at s (triangle_place k) r (c + 1) (omega arith) e in
      let d : word s (point_place j + 2 * coordinate_bytes) ≡ get_or t.bits (c + 2) 0 = ap (word s) z2 ∙ bit_at s (triangle_place k) r (c + 2) (omega arith) e in
      λ i. point (plain (a i)) (plain (b i)) (plain (d i))

  -- and all three
  points_at :
      (s : List ℕ) (k : ℕ) (r : List ℕ) → drop (triangle_place k) s ≡ bytes_of t ++ r
      → point_at s (3 * k) ∷ point_at s (3 * k + 1) ∷ point_at s (3 * k + 2) ∷ [] ≡ points_of t
  unfolding points_of
  points_at s k r e =
      let a = point_is s k (3 * k) 0 r (omega arith) (first_place k) e in
      let b = point_is s k (3 * k + 1) 3 r (omega arith) (second_place k) e in
      let c = point_is s k (3 * k + 2) 6 r (omega arith) (third_place k) e in
      λ i. a i ∷ b i ∷ c i ∷ []

-- ---- all triangles

-- three for each
threes_of : {A : Type 0} (g : ℕ → A) (a n : ℕ) → map g (span (3 * a) (3 * n)) ≡ each (λ (k : ℕ). g (3 * k) ∷ g (3 * k + 1) ∷ g (3 * k + 2) ∷ []) (span a n)
threes_of g a zero = refl
threes_of g a (suc n) =
    let z : 3 * suc n ≡ suc (suc (suc (3 * n))) = omega arith in
    let b : suc (3 * a) ≡ 3 * a + 1 = omega arith in
    let c : suc (suc (3 * a)) ≡ 3 * a + 2 = omega arith in
    let d : suc (suc (suc (3 * a))) ≡ 3 * suc a = omega arith in
    ap (λ (k : ℕ). map g (span (3 * a) k)) z
    ∙ (λ i. g (3 * a) ∷ g (b i) ∷ g (c i) ∷ map g (span (d i) (3 * n)))
    ∙ ap (λ (l : List _). g (3 * a) ∷ g (3 * a + 1) ∷ g (3 * a + 2) ∷ l) (threes_of g (suc a) n)

each_drop :
    (ts : List Triangle) (k : ℕ) → k < length ts → each bytes_of (drop k ts) ≡ bytes_of (get_or ts k no_triangle) ++ each bytes_of (drop (suc k) ts)
each_drop ts k h = ap (each bytes_of) (drop-cons ts k no_triangle h)

module _ (header : List ℕ) (ts : List Triangle) (lh : length header ≡ header_bytes) (formed : AllFormed ts) (few : length ts ≤ face_limit) where
  count_stands : drop header_bytes (file_of header ts) ≡ word_bytes (length ts) ++ each bytes_of ts
  unfolding file_of
  count_stands = drop_at header (word_bytes (length ts) ++ each bytes_of ts) header_bytes lh

  count_read : scan_count (file_of header ts) ≡ length ts
  unfolding scan_count
  count_read = word_written (file_of header ts) header_bytes (length ts) (each bytes_of ts) count_stands ∙ mod-eq_of_lt (omega arith)

  begin : drop front_bytes (file_of header ts) ≡ each bytes_of ts
  begin = behind (file_of header ts) header_bytes 4 (word_bytes (length ts)) (each bytes_of ts) (length_word (length ts)) count_stands

  stands : (k : ℕ) → k ≤ length ts → drop (triangle_place k) (file_of header ts) ≡ each bytes_of (drop k ts)
  stands zero h = let z : triangle_place 0 ≡ front_bytes = omega arith in ap (λ (n : ℕ). drop n (file_of header ts)) z ∙ begin
  stands (suc k) h =
      let z : triangle_place (suc k) ≡ triangle_place k + triangle_bytes = omega arith in
      let l : k < length ts = h in
      ap (λ (n : ℕ). drop n (file_of header ts)) z
      ∙ behind (file_of header ts) (triangle_place k) triangle_bytes (bytes_of (get_or ts k no_triangle)) (each bytes_of (drop (suc k) ts))
      (length_bytes (get_or ts k no_triangle) (formed k l)) (stands k (omega arith) ∙ each_drop ts k l)

  length_each : (us : List Triangle) → ((k : ℕ) → k < length us → Formed (get_or us k no_triangle)) → length (each bytes_of us) ≡ triangle_bytes * length us
  length_each [] f = refl
  length_each (t ∷ us) f =
      let a : length (bytes_of t ++ each bytes_of us) ≡ length (bytes_of t) + length (each bytes_of us) = length-append (bytes_of t) (each bytes_of us) in
      let b : length (bytes_of t) ≡ 50 = length_bytes t (f 0 (omega arith)) in
      let c : length (each bytes_of us) ≡ 50 * length us = length_each us (λ k h. f (suc k) (let z : k < length us = h in omega arith)) in
      omega arith

  file_long : length (file_of header ts) ≡ scan_length (length ts)
  unfolding file_of
  file_long =
      let a : length (header ++ (word_bytes (length ts) ++ each bytes_of ts)) ≡ length header + length (word_bytes (length ts) ++ each bytes_of ts) =
      length-append header (word_bytes (length ts) ++ each bytes_of ts) in
      let b : length (word_bytes (length ts) ++ each bytes_of ts) ≡ length (word_bytes (length ts)) + length (each bytes_of ts) =
      length-append (word_bytes (length ts)) (each bytes_of ts) in
      let c : length (word_bytes (length ts)) ≡ 4 = length_word (length ts) in
      let d : length (each bytes_of ts) ≡ 50 * length ts = length_each ts formed in
      omega arith

  pub length_right : length_number (file_of header ts) ≡ 0
  unfolding length_number
  length_right =
      let l : length (file_of header ts) ≡ scan_length (length ts) = file_long in
      let n : scan_count (file_of header ts) ≡ length ts = count_read in
      rw (
        le-ltb (length (file_of header ts)) front_bytes (omega arith),
        le-ltb face_limit (scan_count (file_of header ts)) (omega arith),
        le-ltb (length (file_of header ts)) (scan_length (scan_count (file_of header ts))) (omega arith),
        le-ltb (scan_length (scan_count (file_of header ts))) (length (file_of header ts)) (omega arith),
      )

  pub points_right : points_in (file_of header ts) ≡ each points_of ts
  unfolding points_in
  points_right =
      ap (λ (n : ℕ). map (point_at (file_of header ts)) (span 0 (3 * n))) count_read
      ∙ ap (λ (a : ℕ). map (point_at (file_of header ts)) (span a (3 * length ts))) (let z : 0 ≡ 3 * 0 = omega arith in z)
      ∙ threes_of (point_at (file_of header ts)) 0 (length ts)
      ∙ each_span_cong (λ (k : ℕ). point_at (file_of header ts) (3 * k) ∷ point_at (file_of header ts) (3 * k + 1) ∷ point_at (file_of header ts) (3 * k + 2) ∷ [])
      (λ (k : ℕ). points_of (get_or ts k no_triangle)) 0 (length ts)
      (λ k l h.
      let i : k < length ts = omega arith in
      points_at (get_or ts k no_triangle) (formed k i) (file_of header ts) k (each bytes_of (drop (suc k) ts)) (stands k (omega arith) ∙ each_drop ts k i))
      ∙ sym (each_map points_of (λ (k : ℕ). get_or ts k no_triangle) (span 0 (length ts)))
      ∙ ap (each points_of) (map_span no_triangle ts)

pub written_is_read : WrittenIsRead
written_is_read header ts lh formed few = record { lengthy = length_right header ts lh formed few; points = points_right header ts lh formed few }

-- ---- and back

module _ (s : List ℕ) (b : Bytes s) where
  word_small : (i : ℕ) → word s i < word_values
  unfolding word half
  word_small i = omega (arith, b i, b (i + 1), b (i + 2), b (i + 2 + 1))

  words_stand : (i n : ℕ) → i + 4 * n ≤ length s → drop i s ≡ each word_bytes (words_from s i n) ++ drop (i + 4 * n) s
  unfolding words_from
  words_stand i zero h = let z : i ≡ i + 4 * 0 = omega arith in ap (λ (k : ℕ). drop k s) z
  words_stand i (suc n) h =
      let z : i + 4 + 4 * n ≡ i + 4 * suc n = omega arith in
      word_again s i b (omega arith)
      ∙ ap (λ (l : List ℕ). word_bytes (word s i) ++ l) (words_stand (i + 4) n (omega arith) ∙ ap (λ (k : ℕ). each word_bytes (words_from s (i + 4) n) ++ drop k s) z)
      ∙ sym (append_assoc (word_bytes (word s i)) (each word_bytes (words_from s (i + 4) n)) (drop (i + 4 * suc n) s))

  length_from : (i n : ℕ) → length (words_from s i n) ≡ n
  unfolding words_from
  length_from i zero = refl
  length_from i (suc n) = ap suc (length_from (i + 4) n)

  small_from : (i n c : ℕ) → get_or (words_from s i n) c 0 < word_values
  unfolding words_from
  small_from i zero c = omega arith
  small_from i (suc n) zero = word_small i
  small_from i (suc n) (suc c) = small_from (i + 4) n c

  -- a part, and the rest behind it
  part_stands : (i n : ℕ) → drop i s ≡ take n (drop i s) ++ drop (i + n) s
  part_stands i n = sym (take-append-drop n (drop i s)) ∙ ap (λ (l : List ℕ). take n (drop i s) ++ l) (drop-drop n i s)

  triangle_stands : (i : ℕ) → i + triangle_bytes ≤ length s → drop i s ≡ bytes_of (triangle_from s i) ++ drop (i + triangle_bytes) s
  unfolding bytes_of
  triangle_stands i h =
      let z : i + normal_bytes + nine * coordinate_bytes + field_bytes ≡ i + triangle_bytes = omega arith in
      part_stands i normal_bytes
      ∙ ap (λ (l : List ℕ). take normal_bytes (drop i s) ++ l)
      (words_stand (i + normal_bytes) nine (omega arith)
      ∙ ap (λ (l : List ℕ). each word_bytes (words_from s (i + normal_bytes) nine) ++ l)
      (part_stands (i + normal_bytes + nine * coordinate_bytes) field_bytes ∙ ap (λ (k : ℕ). take field_bytes (drop (i + normal_bytes + nine * coordinate_bytes) s) ++ drop k s) z)
      ∙ sym (append_assoc (each word_bytes (words_from s (i + normal_bytes) nine)) (take field_bytes (drop (i + normal_bytes + nine * coordinate_bytes) s)) (drop (i + triangle_bytes) s)))
      ∙ sym (append_assoc (take normal_bytes (drop i s))
      (each word_bytes (words_from s (i + normal_bytes) nine) ++ take field_bytes (drop (i + normal_bytes + nine * coordinate_bytes) s)) (drop (i + triangle_bytes) s))

  triangle_formed : (i : ℕ) → i + triangle_bytes ≤ length s → Formed (triangle_from s i)
  triangle_formed i h = record {
    normal_long = length-take-le normal_bytes (drop i s) (let e : length (drop i s) ≡ length s - i = length-drop i s in omega arith);
    bits_long = length_from (i + normal_bytes) nine;
    bits_below = λ c. small_from (i + normal_bytes) nine c;
    field_long =
        length-take-le field_bytes (drop (i + normal_bytes + nine * coordinate_bytes) s)
        (let e : length (drop (i + normal_bytes + nine * coordinate_bytes) s) ≡ length s - (i + normal_bytes + nine * coordinate_bytes) =
        length-drop (i + normal_bytes + nine * coordinate_bytes) s in omega arith);
  }

  triangles_stand :
      (a n : ℕ) → length s ≡ triangle_place (a + n)
      → drop (triangle_place a) s ≡ each bytes_of (map (λ (k : ℕ). triangle_from s (triangle_place k)) (span a n))
  triangles_stand a zero h =
      let z : triangle_place a ≡ length s = omega arith in ap (λ (k : ℕ). drop k s) z ∙ drop-length s
  triangles_stand a (suc n) h =
      let z : triangle_place a + triangle_bytes ≡ triangle_place (suc a) = omega arith in
      triangle_stands (triangle_place a) (omega arith)
      ∙ ap (λ (l : List ℕ). bytes_of (triangle_from s (triangle_place a)) ++ l)
      (ap (λ (k : ℕ). drop k s) z ∙ triangles_stand (suc a) n (omega arith))

-- the header, the count and the triangles are the file
whole :
    (s : List ℕ) → Bytes s → front_bytes ≤ length s → (ts : List Triangle) → length ts ≡ scan_count s → drop front_bytes s ≡ each bytes_of ts
    → s ≡ file_of (take header_bytes s) ts
unfolding file_of scan_count
whole s b l ts n h =
    sym (take-append-drop header_bytes s)
    ∙ ap (λ (r : List ℕ). take header_bytes s ++ r)
    (word_again s header_bytes b l ∙ ap₂ (λ (k : ℕ) (r : List ℕ). word_bytes k ++ r) (sym n) h)

pub read_is_written : ReadIsWritten
unfolding triangles_in
read_is_written s b e =
    let l : length s ≡ scan_length (scan_count s) = (right s e).long in
    let f : scan_count s ≤ face_limit = (right s e).few in
    let t : length (map (λ (k : ℕ). triangle_from s (triangle_place k)) (span 0 (scan_count s))) ≡ scan_count s =
    length_table (λ (k : ℕ). triangle_from s (triangle_place k)) (scan_count s) in
    let z : triangle_place (0 + scan_count s) ≡ length s = omega arith in
    let w : triangle_place 0 ≡ front_bytes = omega arith in
    record {
      header_long = length-take-le header_bytes s (omega arith);
      formed = λ k h.
          (let i : k < scan_count s = omega arith in
          subst Formed (sym (table_at (λ (k : ℕ). triangle_from s (triangle_place k)) (scan_count s) k no_triangle i))
          (triangle_formed s b (triangle_place k) (omega arith)));
      few = omega arith;
      is =
          whole s b (omega arith) (map (λ (k : ℕ). triangle_from s (triangle_place k)) (span 0 (scan_count s))) t
          (ap (λ (k : ℕ). drop k s) (sym w) ∙ triangles_stand s b 0 (scan_count s) (sym z));
    }
