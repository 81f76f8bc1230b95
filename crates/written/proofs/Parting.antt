-- The file of a mesh in five parts, and how long they are. Assumes nothing.
use mathlib.Core.Path.{◌≡◌, refl, sym, ap, ap₂, ◌∙◌}
use mathlib.Core.Bool.{true}
use mathlib.Core.List.{List, [], ◌∷◌, ◌++◌, append_assoc, append-nil, map}
use Prim.Native.Nat.{ℕ, zero, suc, ◌+◌, ◌*◌, ◌/◌, ◌≤◌}
use native.Mathlib.Nat.{mul-zero, mul-suc, add_comm}
use native.Mathlib.Omega.{arith}
use lib.ListN.{length, take, drop, length-append, length-drop}
use lib.Seq.{length-take-le}
use lib.Ieee.{Float}
use Rattle.lists.specs.Lists.{every, each, sum}
use Rattle.lists.proofs.Bools.{and_left, and_right}
use Rattle.lists.proofs.Parts.{each_append}
use Rattle.lists.proofs.Mapping.{each_map}
use Rattle.mesh.proofs.Faces.{is_ring, rings_are, length_rings, sizes_back}
use Rattle.mesh.specs.Mesh.{Mesh, Ring, rings, faces}
use Rattle.mesh.proofs.Accepted.{Accepted, accepted}
use Rattle.floating.specs.declared.Point.{Point}
use Rattle.floating.specs.declared.Texel.{Texel}
use Rattle.floating.specs.Points.{coordinates, points_of}
use Rattle.written.specs.Pieces.{a_position, a_texture, a_normal, a_face, the_end, texels_of, pair, pieces_of, with_marks, wide}
use Rattle.records.specs.Lengths.{marked_length}
use Rattle.records.proofs.Ringing.{size_most}
use Rattle.written.specs.Pieces.{coordinate_bytes, header_of, body_of, record_of, face_bytes, file_of, file_length, file_limit}
use Rattle.written.specs.Promises.{FileIsLong, FileFits}
use Rattle.written.specs.Parts.{entry_record, first_rows, face_record}
use Rattle.written.proofs.Lengths.{length_header, length_coordinates, length_entry, count_few, length_face_record}

-- ---- the records of a list of entries, by the points that they are and by their places in the list

entry_record_lem : (kind : ℕ) (l : List Float) → header_of (length (each coordinate_bytes l)) kind ++ each coordinate_bytes l ≡ entry_record kind l
unfolding entry_record
entry_record_lem kind l = ap (λ (n : ℕ). header_of n kind ++ each coordinate_bytes l) (length_coordinates l)

points_in_lem : (kind : ℕ) (f : Point → List ℕ) → ((p : Point) → f p ≡ entry_record kind (coordinates p)) → (s : List Float) → each f (points_of s) ≡ each (entry_record kind) (first_rows 3 (length s / 3) s)
points_in_lem kind f h [] = refl
points_in_lem kind f h (a ∷ []) = refl
points_in_lem kind f h (a ∷ b ∷ []) = refl
points_in_lem kind f h (a ∷ b ∷ c ∷ s) =
    let n : suc (length s / 3) ≡ suc (suc (suc (length s))) / 3 = omega arith in
    ap₂ (λ (x y : List ℕ). x ++ y) (h _) (points_in_lem kind f h s)
    ∙ ap (λ (i : ℕ). each (entry_record kind) (first_rows 3 i (a ∷ b ∷ c ∷ s))) n

texels_in : (kind : ℕ) (f : Texel → List ℕ) → ((t : Texel) → f t ≡ entry_record kind (pair t)) → (s : List Float) → each f (texels_of s) ≡ each (entry_record kind) (first_rows 2 (length s / 2) s)
texels_in kind f h [] = refl
texels_in kind f h (a ∷ []) = refl
texels_in kind f h (a ∷ b ∷ s) =
    let n : suc (length s / 2) ≡ suc (suc (length s)) / 2 = omega arith in
    ap₂ (λ (x y : List ℕ). x ++ y) (h _) (texels_in kind f h s)
    ∙ ap (λ (i : ℕ). each (entry_record kind) (first_rows 2 i (a ∷ b ∷ s))) n

position_record : (p : Point) → record_of (a_position p) ≡ entry_record 1 (coordinates p)
unfolding record_of body_of
position_record p = entry_record_lem 1 (coordinates p)

texture_record : (t : Texel) → record_of (a_texture t) ≡ entry_record 2 (pair t)
unfolding record_of body_of
texture_record t = entry_record_lem 2 (pair t)

normal_record : (p : Point) → record_of (a_normal p) ≡ entry_record 3 (coordinates p)
unfolding record_of body_of
normal_record p = entry_record_lem 3 (coordinates p)

face_records : (fs : List Ring) → each (λ (f : Ring). record_of (a_face f)) fs ≡ each face_record fs
unfolding face_record
face_records fs = refl

end_record : record_of the_end ≡ header_of 0 0
unfolding record_of body_of
end_record = append-nil (header_of 0 0)

-- ---- the parts

module _ (m : Mesh) where
  abbrev pub P : List ℕ
  P = each (entry_record 1) (first_rows 3 (length m.positions / 3) m.positions)

  abbrev pub T : List ℕ
  T = each (entry_record 2) (first_rows 2 (length m.textures / 2) m.textures)

  abbrev pub N : List ℕ
  N = each (entry_record 3) (first_rows 3 (length m.normals / 3) m.normals)

  abbrev pub F : List ℕ
  F = each face_record (rings m.sizes m.corners)

  abbrev pub E : List ℕ
  E = header_of 0 0

  pub file_parts : file_of m ≡ P ++ (T ++ (N ++ (F ++ E)))
  unfolding file_of pieces_of faces
  file_parts =
      let fs = rings m.sizes m.corners in
      let ps = map a_position (points_of m.positions) in
      let ts = map a_texture (texels_of m.textures) in
      let ns = map a_normal (points_of m.normals) in
      let gs = map a_face fs in
      let p : each record_of ps ≡ P = each_map record_of a_position (points_of m.positions) ∙ points_in_lem 1 (λ x. record_of (a_position x)) position_record m.positions in
      let t : each record_of ts ≡ T = each_map record_of a_texture (texels_of m.textures) ∙ texels_in 2 (λ x. record_of (a_texture x)) texture_record m.textures in
      let n : each record_of ns ≡ N = each_map record_of a_normal (points_of m.normals) ∙ points_in_lem 3 (λ x. record_of (a_normal x)) normal_record m.normals in
      let f : each record_of gs ≡ F = each_map record_of a_face fs ∙ face_records fs in
      let all : each record_of (ps ++ (ts ++ (ns ++ gs))) ≡ P ++ (T ++ (N ++ F)) =
      each_append record_of ps (ts ++ (ns ++ gs))
      ∙ ap₂ (λ (x y : List ℕ). x ++ y) p
      (each_append record_of ts (ns ++ gs) ∙ ap₂ (λ (x y : List ℕ). x ++ y) t (each_append record_of ns gs ∙ ap₂ (λ (x y : List ℕ). x ++ y) n f)) in
      ap₂ (λ (x y : List ℕ). x ++ y) all end_record
      ∙ append_assoc P (T ++ (N ++ F)) E
      ∙ ap (λ (x : List ℕ). P ++ x) (append_assoc T (N ++ F) E ∙ ap (λ (x : List ℕ). T ++ x) (append_assoc N F E))

-- ---- how long they are

-- n entries of width w, c bytes each
entries_length :
    (w c kind n : ℕ) (s : List Float) → c ≡ 4 + 8 * w → length s ≡ w * n → length (each (entry_record kind) (first_rows w n s)) ≡ c * n
entries_length w c kind zero s e h = sym (mul-zero c)
entries_length w c kind (suc n) s e h =
    let z : length s ≡ w * n + w = h ∙ mul-suc w n in
    let t : length (take w s) ≡ w = length-take-le w s (omega arith) in
    let d : length (drop w s) ≡ w * n = length-drop w s ∙ omega arith in
    length-append (entry_record kind (take w s)) (each (entry_record kind) (first_rows w n (drop w s)))
    ∙ ap₂ (λ (x y : ℕ). x + y) (length_entry kind (take w s) ∙ ap (λ (i : ℕ). 4 + 8 * i) t ∙ sym e) (entries_length w c kind n (drop w s) e d)
    ∙ add_comm c (c * n)
    ∙ sym (mul-suc c n)

faces_length : (fs : List Ring) → every is_ring fs ≡ true → length (each face_record fs) ≡ sum (map face_bytes fs)
faces_length [] h = refl
faces_length (f ∷ fs) h =
    length-append (face_record f) (each face_record fs)
    ∙ ap₂ (λ (x y : ℕ). x + y) (length_face_record f (and_left (is_ring f) (every is_ring fs) h)) (faces_length fs (and_right (is_ring f) (every is_ring fs) h))

-- a face has at most six bytes before its corners, and sixteen for each
pub faces_most : (fs : List Ring) → sum (map face_bytes fs) ≤ 6 * length fs + marked_length * sum (map length fs)
unfolding face_bytes
faces_most [] = omega arith
faces_most (f ∷ fs) = omega (arith, faces_most fs, count_few (wide (with_marks f) (length f)), size_most (with_marks f) (length f))

module _ (m : Mesh) (a : Accepted m) where
  length_P : length (P m) ≡ 28 * (length m.positions / 3)
  length_P = entries_length 3 28 1 (length m.positions / 3) m.positions refl (omega (arith, a.whole.positions))

  length_T : length (T m) ≡ 20 * (length m.textures / 2)
  length_T = entries_length 2 20 2 (length m.textures / 2) m.textures refl (omega (arith, a.whole.textures))

  length_N : length (N m) ≡ 28 * (length m.normals / 3)
  length_N = entries_length 3 28 3 (length m.normals / 3) m.normals refl (omega (arith, a.whole.normals))

  -- the five parts together
  pub parts_length : length (file_of m) ≡ length (P m) + (length (T m) + (length (N m) + (length (F m) + 4)))
  parts_length =
      omega (
        arith,
        length_header 0 0,
        ap length (file_parts m),
        length-append (P m) (T m ++ (N m ++ (F m ++ E m))),
        length-append (T m) (N m ++ (F m ++ E m)),
        length-append (N m) (F m ++ E m),
        length-append (F m) (E m),
      )

  pub file_length_lem : length (file_of m) ≡ file_length m
  unfolding file_length faces
  file_length_lem = omega (arith, faces_length (rings m.sizes m.corners) (rings_are m.sizes m.corners), length_P, length_T, length_N, parts_length)

  pub file_limit_lem : file_length m ≤ file_limit
  unfolding file_length faces
  file_limit_lem =
      omega (
        arith,
        a.limits.positions,
        a.limits.textures,
        a.limits.normals,
        a.limits.corners,
        a.whole.adds,
        a.limits.sizes,
        faces_most (rings m.sizes m.corners),
        length_rings m.sizes m.corners,
        ap sum (sizes_back m.sizes m.corners (omega (arith, a.whole.adds))),
      )

pub file_is_long : FileIsLong
file_is_long m h = file_length_lem m (accepted m h)

pub file_fits : FileFits
file_fits m h = file_limit_lem m (accepted m h)
