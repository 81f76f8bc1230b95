-- The reader of the panel file as it was before document 02, CR 11: kinds 0 to 5, and a corner is three numbers. With 4 for its last kind it is
-- the reader before CR 6, which had no kind 5. Under the names that they had, with the numbers that they had, it has what has changed since:
-- one record, the corners of a face, and the taking of a face. Assumes nothing.
use Rattle.std.specs.Prelude.{ℕ, zero, suc, ◌+◌, ◌*◌, ◌-◌, ◌%◌, Bool, true, false, not, ◌&&◌, List, [], ◌∷◌, length, ltb, leb, eqb}
use Rattle.little.specs.Little.{byte, half, word}
use Rattle.mesh.specs.Limits.{corner_limit}
use Rattle.mesh.specs.Mesh.{Mesh, Ring}
use Rattle.mesh.specs.Table.{when, first_of, Lent, short}
use Rattle.grouping.specs.Push.{corner_count, pushed}
use Rattle.records.specs.declared.Record.{Record}
use Rattle.records.specs.declared.Record.TheVariants.{Position, Texture, Normal, Face, End, Refused}
use Rattle.records.specs.Records.{point_from, texel_from, unless, attribute}
use Rattle.reading.specs.Reading.{Reader, reader, nothing, going, limited, with_face, take_record, finish, mesh_drawn}

-- ---- one record: an answer of today, in which no face carries marks

-- the length of a body by its kind: end 0, position 24, texture 16, normal 24, of a face 1 + 12m for some m up to 255, and of a wide one
-- 2 + 12m for some m from 33 on
unfoldable pub length_fits : ℕ → ℕ → Bool
length_fits zero n = eqb n 0
length_fits (suc zero) n = eqb n 24
length_fits (suc (suc zero)) n = eqb n 16
length_fits (suc (suc (suc zero))) n = eqb n 24
length_fits (suc (suc (suc (suc zero)))) n = leb n 3061 && eqb (n % 12) 1
length_fits (suc (suc (suc (suc (suc k))))) n = leb 398 n && eqb (n % 12) 2

-- a face: c unlike the length's gives 12, c over the limit gives 3
unfoldable pub counted : ℕ → ℕ → ℕ → ℕ → ℕ → Record
counted w limit c a n = unless (first_of (when (not (eqb (w + 12 * c) n)) 12 ∷ when (ltb limit c) 3 ∷ [])) (Face a c false)

-- the body of n bytes at b, by its kind: a byte for up to 32 corners, two bytes for up to 300
unfoldable pub body_from : List ℕ → ℕ → ℕ → ℕ → Record
body_from s b n zero = End
body_from s b n (suc zero) = attribute (Position (point_from s b))
body_from s b n (suc (suc zero)) = attribute (Texture (texel_from s b))
body_from s b n (suc (suc (suc zero))) = attribute (Normal (point_from s b))
body_from s b n (suc (suc (suc (suc zero)))) = counted 1 32 (byte s b) (b + 1) n
body_from s b n (suc (suc (suc (suc (suc k))))) = counted 2 300 (half s b) (b + 2) n

-- the record at a place, for a reader that knows the kinds up to the last one: header cut 11, kind 12, length 12, body cut 11
unfoldable pub record_from : ℕ → List ℕ → ℕ → Record
record_from last_kind s at =
    let n = half s at in
    let kind = half s (at + 2) in
    let b = at + 4 in
    unless
    (first_of
    (when (ltb (length s - at) 4) 11
    ∷ when (ltb last_kind kind) 12
    ∷ when (not (length_fits kind n)) 12
    ∷ when (ltb (length s - b) n) 11
    ∷ []))
    (body_from s b n kind)

-- ---- a face is taken, its corners three four-byte numbers each; every other record as it is today

abbrev pub ring_from : List ℕ → ℕ → ℕ → Ring
ring_from s zero a = []
ring_from s (suc n) a = (word s a ∷ word s (a + 4) ∷ word s (a + 8) ∷ []) ∷ ring_from s n (a + 12)

abbrev pub take_face : Bool → List ℕ → ℕ → ℕ → Reader → Reader
take_face true s a n x = reader (a + 12 * n) 0 false x.drawn
take_face false s a n x =
    limited (ltb corner_limit (corner_count x.drawn.faces + n)) x (reader (a + 12 * n) 0 false (with_face (ring_from s n a) x.drawn))

unfoldable pub take_one : List ℕ → Reader → Record → Reader
take_one s x (Position p) = take_record s x (Position p)
take_one s x (Texture t) = take_record s x (Texture t)
take_one s x (Normal p) = take_record s x (Normal p)
take_one s x (Face a n m) = take_face (ltb n 3) s a n x
take_one s x End = take_record s x End
take_one s x (Refused n) = take_record s x (Refused n)

-- ---- the reading by it

-- record by record; the first argument bounds their number: one more than the bytes is enough
unfoldable pub read_from : ℕ → ℕ → List ℕ → Reader → Reader
read_from last_kind zero s x = x
read_from last_kind (suc f) s x = elim (going x) [ true ↦ read_from last_kind f s (take_one s x (record_from last_kind s x.at)) | false ↦ x ]

unfoldable pub read_all : ℕ → List ℕ → Reader
read_all last_kind s = read_from last_kind (suc (length s)) s (reader 0 0 false nothing)

unfoldable pub reading_number : ℕ → List Lent → List ℕ → ℕ
reading_number last_kind rooms s = first_of (when (short rooms) 9 ∷ finish s (read_all last_kind s) ∷ [])

-- the faces of a file as they were kept, three numbers a corner, and its mesh
unfoldable pub faces_kept : ℕ → List ℕ → List Ring
faces_kept last_kind s = pushed (read_all last_kind s).drawn.faces

unfoldable pub panel_mesh : ℕ → List ℕ → Mesh
panel_mesh last_kind s = mesh_drawn (read_all last_kind s).drawn
