-- The pieces of a written file are drawn one after the other, up to its end. Assumes nothing.
use mathlib.Core.Path.{◌≡◌, refl, sym, ap, ap₂, ◌∙◌}
use mathlib.Core.Bool.{Bool, true, false, not}
use mathlib.Core.List.{List, [], ◌∷◌, ◌++◌, append_assoc, append-nil}
use Prim.Native.Nat.{ℕ, zero, suc, ◌+◌, ◌*◌, ◌<◌}
use native.Mathlib.Nat.{le_of_suc-le-suc, not-suc-le-zero}
use native.Mathlib.Omega.{arith}
use lib.ListN.{length, drop, length-append}
use borrow.Author.Tests.{le-ltb, not-true}
use Rattle.lists.specs.Lists.{every, each}
use Rattle.lists.proofs.Bools.{and_left, and_right}
use Rattle.little.proofs.Written.{behind}
use Rattle.mesh.specs.Limits.{corner_limit, point_numbers, texel_numbers}
use Rattle.mesh.specs.Mesh.{Ring}
use Rattle.grouping.specs.Push.{corner_count}
use Rattle.grouping.proofs.Placing.{count_append}
use Rattle.floating.specs.Points.{coordinates}
use Rattle.records.specs.Lengths.{corner_size}
use Rattle.reading.specs.Reading.{Drawn, reader, take_record, read_from, with_face}
use Rattle.reading.proofs.Sane.{read_on, read_off}
use Rattle.written.specs.Pieces.{Piece, a_position, a_texture, a_normal, a_face, the_end, with_marks, wide, count_length, kind_of, header_of, body_of, record_of, pair}
use Rattle.written.proofs.Lengths.{length_header}
use Rattle.written.specs.Said.{sayable, answer_at, ends, drawn_more, positions_in, textures_in, normals_in, faces_in, drawn_with, Roomy}
use Rattle.written.proofs.Records.{length_of, length_body, small_face, body_stands, corners_back, record_back}

-- ---- limits

-- what is drawn first is within the limits where all of it is
roomy_before : (d : Drawn) (ps : List Piece) → Roomy (drawn_with d ps) → Roomy d
roomy_before d ps h = record {
  positions = omega (arith, h.positions, length-append d.positions (each positions_in ps));
  textures = omega (arith, h.textures, length-append d.textures (each textures_in ps));
  normals = omega (arith, h.normals, length-append d.normals (each normals_in ps));
  corners = omega (arith, h.corners, count_append d.faces (each faces_in ps));
}

-- ---- one piece

pub length_record : (p : Piece) → sayable p ≡ true → length (record_of p) ≡ 4 + length_of p
unfolding record_of
length_record p w =
    omega (arith, length-append (header_of (length (body_of p)) (kind_of p)) (body_of p), length_header (length (body_of p)) (kind_of p), length_body p w)

-- the reader takes the answer for a piece: it goes to the end of the record and draws the piece
take_back :
    (s : List ℕ) (at : ℕ) (d : Drawn) (p : Piece) (r : List ℕ) → sayable p ≡ true → drop (at + 4) s ≡ body_of p ++ r → Roomy (drawn_more p d)
    → take_record s (reader at 0 false d) (answer_at at p) ≡ reader (at + (4 + length_of p)) 0 (ends p) (drawn_more p d)
unfolding take_record
take_back s at d (a_position p) r w h m = rw (le-ltb point_numbers (length d.positions + 3) (omega (arith, m.positions, length-append d.positions (coordinates p))))
take_back s at d (a_texture t) r w h m = rw (le-ltb texel_numbers (length d.textures + 2) (omega (arith, m.textures, length-append d.textures (pair t))))
take_back s at d (a_normal p) r w h m = rw (le-ltb point_numbers (length d.normals + 3) (omega (arith, m.normals, length-append d.normals (coordinates p))))
take_back s at d (a_face f) r w h m =
    let n = length f in
    let k = count_length (wide (with_marks f) n) in
    let j : at + 4 + k + corner_size (with_marks f) * n ≡ at + (4 + (k + corner_size (with_marks f) * n)) = omega arith in
    rw (le-ltb n 3 (small_face f w).0, le-ltb corner_limit (corner_count d.faces + n) (omega (arith, m.corners, count_append d.faces (f ∷ []))))
    (ap₂ (λ (a : ℕ) (g : Ring). reader a 0 false (with_face g d)) j (corners_back s at f r w h))
take_back s at d the_end r w h m = refl

-- ---- all pieces

drawn_more_lem : (p : Piece) (d : Drawn) (ps : List Piece) → drawn_with (drawn_more p d) ps ≡ drawn_with d (p ∷ ps)
drawn_more_lem (a_position p) d ps = rw (append_assoc d.positions (coordinates p) (each positions_in ps))
drawn_more_lem (a_texture t) d ps = rw (append_assoc d.textures (pair t) (each textures_in ps))
drawn_more_lem (a_normal p) d ps = rw (append_assoc d.normals (coordinates p) (each normals_in ps))
drawn_more_lem (a_face f) d ps = rw (append_assoc d.faces (f ∷ []) (each faces_in ps))
drawn_more_lem the_end d ps = refl

drawn_none : (d : Drawn) → d ≡ drawn_with d []
drawn_none d = rw (append-nil d.positions, append-nil d.textures, append-nil d.normals, append-nil d.faces)

abbrev pub draws : Piece → Bool
draws p = not (ends p)

-- a reader that goes on takes the piece whose record stands at its place
module _ (s : List ℕ) (at : ℕ) (d : Drawn) (p : Piece) (r : List ℕ) (w : sayable p ≡ true) (h : drop at s ≡ record_of p ++ r) (m : Roomy (drawn_more p d)) (f : ℕ) where
  piece_read : read_from (suc f) s (reader at 0 false d) ≡ read_from f s (reader (at + (4 + length_of p)) 0 (ends p) (drawn_more p d))
  piece_read =
      read_on f s (reader at 0 false d) refl
      ∙ ap (λ x. read_from f s (take_record s (reader at 0 false d) x)) (record_back s at p r w h)
      ∙ ap (read_from f s) (take_back s at d p r w (body_stands s at p r w h) m)

pub read_back :
    (ps : List Piece) (f : ℕ) (s : List ℕ) (at : ℕ) (d : Drawn) (r : List ℕ) → every sayable ps ≡ true → every draws ps ≡ true → Roomy (drawn_with d ps)
    → length ps < f → drop at s ≡ each record_of ps ++ (record_of the_end ++ r)
    → read_from f s (reader at 0 false d) ≡ reader (at + length (each record_of ps) + 4) 0 true (drawn_with d ps)
read_back ps zero s at d r w v m l h = absurd (not-suc-le-zero l)
read_back [] (suc f) s at d r w v m l h =
    let e : at + 0 + 4 ≡ at + 4 = omega arith in
    piece_read s at d the_end r refl h (roomy_before d [] m) f
    ∙ read_off f s (reader (at + 4) 0 true d) refl
    ∙ ap₂ (λ (a : ℕ) (x : Drawn). reader a 0 true x) (sym e) (drawn_none d)
read_back (p ∷ ps) (suc f) s at d r w v m l h =
    let rest = each record_of ps ++ (record_of the_end ++ r) in
    let wp : sayable p ≡ true = and_left (sayable p) (every sayable ps) w in
    let g : drop at s ≡ record_of p ++ rest = h ∙ append_assoc (record_of p) (each record_of ps) (record_of the_end ++ r) in
    let n : length (record_of p) ≡ 4 + length_of p = length_record p wp in
    let m' : Roomy (drawn_with (drawn_more p d) ps) = rw (drawn_more_lem p d ps) m in
    let o : ends p ≡ false = not-true (ends p) (and_left (draws p) (every draws ps) v) in
    let at' = at + (4 + length_of p) in
    let e : at' + length (each record_of ps) + 4 ≡ at + length (record_of p ++ each record_of ps) + 4 = omega (arith, length-append (record_of p) (each record_of ps)) in
    piece_read s at d p rest wp g (roomy_before (drawn_more p d) ps m') f
    ∙ ap (λ (b : Bool). read_from f s (reader at' 0 b (drawn_more p d))) o
    ∙ read_back ps f s at' (drawn_more p d) r (and_right (sayable p) (every sayable ps) w) (and_right (draws p) (every draws ps) v) m'
    (le_of_suc-le-suc l) (behind s at (4 + length_of p) (record_of p) rest n g)
    ∙ ap₂ (λ (a : ℕ) (x : Drawn). reader a 0 true x) e (drawn_more_lem p d ps)
