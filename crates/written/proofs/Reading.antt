-- Every coordinate that a reader draws is an f64, whatever the file, and finite, and every number of a corner one of 32 bits: so the mesh of
-- any file that is read comes back. Assumes nothing.
use mathlib.Core.Path.{◌≡◌, refl, ap, ◌∙◌}
use mathlib.Core.Bool.{Bool, true, false}
use mathlib.Core.List.{List, [], ◌∷◌}
use Prim.Native.Nat.{ℕ, zero, suc, ◌+◌, ◌*◌, ◌≤◌}
use native.Mathlib.Omega.{arith}
use lib.ListN.{length, get_or, get_or-eq_default}
use lib.Dec.{ltb}
use borrow.Author.Tests.{lt-ltb, ltb-true, ltb-false}
use lib.Ieee.{Float, nan, binary64, of_bits, fits}
use lib.Ieee.Bits.{is_true, of_bits-fits}
use Rattle.lists.specs.Lists.{every, joined, each}
use Rattle.lists.proofs.Bools.{by_cases}
use Rattle.lists.proofs.Parts.{every_at, every_append, each_joined, every_joined}
use Rattle.mesh.specs.Limits.{width, largest, corner_limit, point_numbers, texel_numbers}
use Rattle.mesh.specs.Mesh.{Ring}
use Rattle.grouping.specs.Push.{pushed, corner_count}
use Rattle.grouping.proofs.Pushed.{every_pushed}
use Rattle.mesh.specs.Table.{short}
use Rattle.mesh.proofs.Numbers.{first_head}
use Rattle.floating.specs.Points.{coordinates}
use Rattle.floating.specs.Promises.{Doubles}
use Rattle.little.specs.Little.{Bytes, half, word, long}
use Rattle.records.specs.Lengths.{coordinate_length, corner_length, corner_size}
use Rattle.records.specs.declared.Record.{Record}
use Rattle.records.specs.declared.Record.TheVariants.{Position, Texture, Normal, Face, End, Refused}
use Rattle.records.specs.Records.{coordinate, point_from, texel_from, mark_from, ring_from, body_from, record_from, values_of, end_of}
use Rattle.records.proofs.Values.{attribute_passes, face_passes, wide_face_passes, marked_face_passes, record_passes}
use Rattle.reading.specs.Reading.{Reader, reader, nothing, limited, with_position, with_texture, with_normal, with_face, take_face}
use Rattle.reading.specs.Reading.{take_record, going, read_from, read_all, mesh_drawn, finish, reading_number, panel_mesh}
use Rattle.reading.proofs.Sane.{read_on, read_off}
use Rattle.reading.proofs.Ending.{read_accepted}
use Rattle.reading.proofs.Values.{all_pass, read_finite}
use Rattle.written.specs.Said.{is_double, is_word}
use Rattle.written.specs.Promises.{DoubleMesh, FileReopens}
use Rattle.written.proofs.Reopened.{reopens}

-- ---- one record

coordinate_is : (s : List ℕ) (i : ℕ) → is_double (coordinate s i) ≡ true
unfolding coordinate
coordinate_is s i = is_true (fits binary64 (of_bits binary64 (long s i))) (of_bits-fits binary64 (long s i))

point_is : (s : List ℕ) (i : ℕ) → every is_double (coordinates (point_from s i)) ≡ true
unfolding point_from
point_is s i = rw (coordinate_is s i, coordinate_is s (i + coordinate_length), coordinate_is s (i + 16))

texel_is : (s : List ℕ) (i : ℕ) → every is_double (values_of (Texture (texel_from s i))) ≡ true
unfolding texel_from
texel_is s i = rw (coordinate_is s i, coordinate_is s (i + coordinate_length))

body_is : (s : List ℕ) (b n k : ℕ) → every is_double (values_of (body_from s b n k)) ≡ true
unfolding body_from
body_is s b n zero = refl
body_is s b n (suc zero) = attribute_passes is_double (Position (point_from s b)) (point_is s b)
body_is s b n (suc (suc zero)) = attribute_passes is_double (Texture (texel_from s b)) (texel_is s b)
body_is s b n (suc (suc (suc zero))) = attribute_passes is_double (Normal (point_from s b)) (point_is s b)
body_is s b n (suc (suc (suc (suc zero)))) = face_passes is_double s b n
body_is s b n (suc (suc (suc (suc (suc zero))))) = wide_face_passes is_double s b n
body_is s b n (suc (suc (suc (suc (suc (suc k)))))) = marked_face_passes is_double s b n

-- ---- the faces that are drawn, where every ring out of the file passes a test

module _ (p : Ring → Bool) (s : List ℕ) (h : (m : Bool) (n a : ℕ) → p (ring_from m s n a) ≡ true) where
  abbrev Good : Reader → Type 0
  Good z = every p z.drawn.faces ≡ true

  limited_good : (b : Bool) (old new : Reader) → Good old → Good new → Good (limited b old new)
  limited_good true old new f g = f
  limited_good false old new f g = g

  face_good : (b : Bool) (a n : ℕ) (m : Bool) (z : Reader) → Good z → Good (take_face b s a n m z)
  face_good true a n m z g = g
  face_good false a n m z g =
      let d = z.drawn in
      let f = ring_from m s n a in
      limited_good (ltb corner_limit (corner_count d.faces + n)) z (reader (end_of z.at (Face a n m)) 0 false (with_face f d)) g
      (every_append p d.faces (f ∷ []) ∙ rw (g, h m n a))

  take_good : (z : Reader) (r : Record) → Good z → Good (take_record s z r)
  unfolding take_record
  take_good z (Position q) g =
      let d = z.drawn in
      let new = values_of (Position q) in
      limited_good (ltb point_numbers (length d.positions + 3)) z (reader (end_of z.at (Position q)) 0 false (with_position new d)) g g
  take_good z (Texture t) g =
      let d = z.drawn in
      let new = values_of (Texture t) in
      limited_good (ltb texel_numbers (length d.textures + 2)) z (reader (end_of z.at (Texture t)) 0 false (with_texture new d)) g g
  take_good z (Normal q) g =
      let d = z.drawn in
      let new = values_of (Normal q) in
      limited_good (ltb point_numbers (length d.normals + 3)) z (reader (end_of z.at (Normal q)) 0 false (with_normal new d)) g g
  take_good z (Face a n m) g = face_good (ltb n 3) a n m z g
  take_good z End g = g
  take_good z (Refused n) g = g

  read_good : (f : ℕ) (z : Reader) → Good z → Good (read_from f s z)
  read_good zero z g = rw (let e : read_from zero s z ≡ z = unfold read_from in refl in e) g
  read_good (suc f) z g =
      by_cases (going z)
      (λ e. rw (read_on f s z e) (read_good f (take_record s z (record_from s z.at)) (take_good z (record_from s z.at) g)))
      (λ e. rw (read_off (suc f) s z e) g)

  all_good : every p (read_all s).drawn.faces ≡ true
  unfolding read_all
  all_good = read_good (suc (length s)) (reader 0 0 false nothing) refl

-- ---- four bytes say a number of 32 bits

module _ (s : List ℕ) (h : Bytes s) where
  word_is : (i : ℕ) → is_word (word s i) ≡ true
  unfolding half word
  word_is i = lt-ltb (word s i) 4294967296 (omega (arith, h i, h (i + 1), h (i + 2), h (i + 2 + 1)))

  mark_is : (m : Bool) (i : ℕ) → is_word (mark_from m s i) ≡ true
  mark_is false i = refl
  mark_is true i = word_is i

  ring_is : (m : Bool) (n a : ℕ) → every (every is_word) (ring_from m s n a) ≡ true
  ring_is m zero a = refl
  ring_is m (suc n) a = rw (word_is a, word_is (a + 4), word_is (a + 8), mark_is m (a + corner_length)) (ring_is m n (a + corner_size m))

-- a number of a list that passes, or none
word_in : (l : List ℕ) (k : ℕ) → every is_word l ≡ true → get_or l k 0 ≤ largest
word_in l k h =
    by_cases (ltb k (length l))
    (λ e. omega (arith, ltb-true (get_or l k 0) 4294967296 (every_at is_word 0 l k h (ltb-true k (length l) e))))
    (λ e. rw (get_or-eq_default l 0 (ltb-false k (length l) e)) (omega arith))

-- ---- the mesh of a file

pub doubles_are : (s : List Float) → every is_double s ≡ true → Doubles s
doubles_are s h k l = let e : is_double (get_or s k nan) ≡ true = every_at is_double nan s k h l in rw e tt

marks_read : (file : List ℕ) → Bytes file → (k : ℕ) → get_or (panel_mesh file).corners k 0 ≤ largest
unfolding panel_mesh mesh_drawn
marks_read file b k =
    let fs = (read_all file).drawn.faces in
    let words : every (every (every is_word)) (pushed fs) ≡ true = every_pushed (every (every is_word)) fs (all_good (every (every is_word)) file (ring_is file b)) in
    word_in (each joined (pushed fs)) k
    (ap (every is_word) (each_joined (pushed fs)) ∙ every_joined is_word (joined (pushed fs)) ∙ every_joined (every is_word) (pushed fs) ∙ words)

pub read_doubles : (file : List ℕ) → Bytes file → DoubleMesh (panel_mesh file)
unfolding panel_mesh mesh_drawn
read_doubles file b =
    let d = (read_all file).drawn in
    let a = all_pass is_double file (record_passes is_double file (body_is file)) in
    record {
      positions = doubles_are d.positions a.positions;
      textures = doubles_are d.textures a.textures;
      normals = doubles_are d.normals a.normals;
      marks = λ k. marks_read file b (width * k + 3);
    }

pub file_reopens : FileReopens
unfolding reading_number short
file_reopens file b h =
    reopens (panel_mesh file) (read_accepted file (first_head (finish file (read_all file)) [] h)) (read_doubles file b) (read_finite file)
