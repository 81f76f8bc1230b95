-- Where no record of a later kind stands the two readers take the same record, and so the same file, with marks of 0. Assumes nothing.
use mathlib.Core.Path.{◌≡◌, refl, sym, ap, ap₂, ◌∙◌}
use mathlib.Core.Bool.{Bool, true, false, not, ◌&&◌, ◌||◌}
use mathlib.Core.List.{List, [], ◌∷◌}
use Prim.Native.Nat.{ℕ, zero, suc, ◌+◌, ◌*◌, ◌-◌, ◌≤◌, ◌<◌}
use native.Mathlib.Omega.{arith}
use lib.ListN.{length}
use lib.Dec.{ltb, leb, eqb}
use borrow.Author.Tests.{lt-ltb, le-ltb, ltb-true, ltb-false, le-leb, leb-true}
use Rattle.lists.specs.Lists.{every, some, joined, each}
use Rattle.lists.proofs.Bools.{by_cases, true_false, and_both, and_left, and_right, or_false_left, or_false_right}
use Rattle.little.specs.Little.{byte, half}
use Rattle.mesh.specs.Limits.{point_numbers, texel_numbers}
use Rattle.mesh.specs.Mesh.{mesh_of}
use Rattle.mesh.specs.Table.{Lent, when, first_of, short}
use Rattle.floating.specs.Limits.{finite}
use Rattle.records.specs.declared.Record.{Record}
use Rattle.records.specs.declared.Record.TheVariants.{Position, Texture, Normal, Face, End, Refused}
use Rattle.records.specs.Lengths.{header_length, last_kind}
use Rattle.records.specs.Records.{values_of, end_of, point_from, texel_from, unless, attribute, length_fits, counted, face_from, wide_face_from, body_from, record_from}
use Rattle.reading.specs.Reading.{Reader, reader, nothing, going, with_position, with_texture, with_normal, take_record, read_from, read_all, finish, reading_number, mesh_drawn, panel_mesh}
use Rattle.reading.proofs.Sane.{read_on, read_off}
use Rattle.reading.proofs.Ending.{end_refused}
use Rattle.oldfiles.specs.Before as before
use Rattle.oldfiles.specs.Promises.{places_from, record_places, later_at, meets_later, ReadAsBefore, MeshWas, WithoutKind6, WithoutKind5, OldReaderStops, TakenStaysTaken}
use Rattle.oldfiles.proofs.Marks.{as_now, limited_same, face_same, finish_same, kept_same, sizes_same}

-- ---- one record, for a reader that knows the kinds up to k

-- a face that carries no marks lacks none
first_skips : (x : ℕ) (ys : List ℕ) → first_of (x ∷ 0 ∷ ys) ≡ first_of (x ∷ ys)
first_skips zero ys = refl
first_skips (suc x) ys = refl

counted_plain : (s : List ℕ) (w limit c a n : ℕ) → counted false s w limit c a n ≡ before.counted w limit c a n
unfolding counted before.counted
counted_plain s w limit c a n =
    ap (λ (k : ℕ). unless k (Face a c false)) (first_skips (when (not (eqb (w + 12 * c) n)) 12) (when (ltb limit c) 3 ∷ []))

face_plain : (s : List ℕ) (b n : ℕ) → face_from s b n ≡ before.counted 1 32 (byte s b) (b + 1) n
unfolding face_from
face_plain s b n = counted_plain s 1 32 (byte s b) (b + 1) n

wide_plain : (s : List ℕ) (b n : ℕ) → wide_face_from s b n ≡ before.counted 2 300 (half s b) (b + 2) n
unfolding wide_face_from
wide_plain s b n = counted_plain s 2 300 (half s b) (b + 2) n

-- behind a whole header: the rows of the kind and the length and the body, of any kind but a later one
kind_same :
    (last : ℕ) → 4 ≤ last → last ≤ 5 → (s : List ℕ) (b n k : ℕ) (cut : Bool) → (last < k → k ≤ 6 → ⊥)
    → unless (first_of (when (ltb last_kind k) 12 ∷ when (not (length_fits k n)) 12 ∷ when cut 11 ∷ [])) (body_from s b n k)
    ≡ unless (first_of (when (ltb last k) 12 ∷ when (not (before.length_fits k n)) 12 ∷ when cut 11 ∷ [])) (before.body_from s b n k)
unfolding length_fits body_from before.length_fits before.body_from
kind_same last l u s b n zero cut h = rw (le-ltb last 0 (omega arith))
kind_same last l u s b n (suc zero) cut h = rw (le-ltb last 1 (omega arith))
kind_same last l u s b n (suc (suc zero)) cut h = rw (le-ltb last 2 (omega arith))
kind_same last l u s b n (suc (suc (suc zero))) cut h = rw (le-ltb last 3 (omega arith))
kind_same last l u s b n (suc (suc (suc (suc zero)))) cut h = rw (le-ltb last 4 l) (ap (unless (first_of (when (not (length_fits 4 n)) 12 ∷ when cut 11 ∷ []))) (face_plain s b n))
kind_same last l u s b n (suc (suc (suc (suc (suc zero))))) cut h =
    by_cases (ltb last 5) (λ e. absurd (h (ltb-true last 5 e) (omega arith)))
    (λ e. rw e (ap (unless (first_of (when (not (length_fits 5 n)) 12 ∷ when cut 11 ∷ []))) (wide_plain s b n)))
kind_same last l u s b n (suc (suc (suc (suc (suc (suc zero)))))) cut h = absurd (h (omega arith) (omega arith))
kind_same last l u s b n (suc (suc (suc (suc (suc (suc (suc k))))))) cut h =
    let m = suc (suc (suc (suc (suc (suc (suc k)))))) in rw (lt-ltb last_kind m (omega arith), lt-ltb last m (omega arith))

module _ (last : ℕ) (l : 4 ≤ last) (u : last ≤ 5) (s : List ℕ) (at : ℕ) where
  abbrev kind : ℕ
  kind = half s (at + 2)

  abbrev cut : Bool
  cut = ltb (length s - at) header_length

  abbrev later : Bool
  later = ltb last kind && leb kind 6

  whole : cut ≡ false → leb header_length (length s - at) ≡ true
  whole c = le-leb header_length (length s - at) (ltb-false (length s - at) header_length c)

  -- where the header is whole, the kind is no later one
  other_kind : later_at last s at ≡ false → cut ≡ false → last < kind → kind ≤ 6 → ⊥
  other_kind h c a b =
      true_false
      (sym (and_both (leb header_length (length s - at)) later (whole c) (and_both (ltb last kind) (leb kind 6) (lt-ltb last kind a) (le-leb kind 6 b))) ∙ h)

  pub record_same : later_at last s at ≡ false → record_from s at ≡ before.record_from last s at
  unfolding record_from before.record_from
  record_same h =
      by_cases cut (λ c. rw c)
      (λ c. rw c (kind_same last l u s (at + header_length) (half s at) kind (ltb (length s - (at + header_length)) (half s at)) (other_kind h c)))

  -- where it is, the kind is unknown to the old reader
  pub record_stops : later_at last s at ≡ true → before.record_from last s at ≡ Refused 12
  unfolding before.record_from
  record_stops h =
      let i : header_length ≤ length s - at = leb-true header_length (length s - at) (and_left (leb header_length (length s - at)) later h) in
      let k : ltb last kind ≡ true = and_left (ltb last kind) (leb kind 6) (and_right (leb header_length (length s - at)) later h) in
      rw (le-ltb (length s - at) header_length i, k)

-- ---- no face of the old reader carries marks

abbrev carries : Record → Bool
carries (Position p) = false
carries (Texture t) = false
carries (Normal p) = false
carries (Face a n m) = m
carries End = false
carries (Refused n) = false

unless_carries : (k : ℕ) (r : Record) → carries r ≡ false → carries (unless k r) ≡ false
unless_carries zero r h = h
unless_carries (suc k) r h = refl

attribute_carries : (r : Record) → carries r ≡ false → carries (attribute r) ≡ false
unfolding attribute
attribute_carries r h = unless_carries (when (not (every finite (values_of r))) 14) r h

counted_carries : (w limit c a n : ℕ) → carries (before.counted w limit c a n) ≡ false
unfolding before.counted
counted_carries w limit c a n = unless_carries (first_of (when (not (eqb (w + 12 * c) n)) 12 ∷ when (ltb limit c) 3 ∷ [])) (Face a c false) refl

body_carries : (s : List ℕ) (b n k : ℕ) → carries (before.body_from s b n k) ≡ false
unfolding before.body_from
body_carries s b n zero = refl
body_carries s b n (suc zero) = attribute_carries (Position (point_from s b)) refl
body_carries s b n (suc (suc zero)) = attribute_carries (Texture (texel_from s b)) refl
body_carries s b n (suc (suc (suc zero))) = attribute_carries (Normal (point_from s b)) refl
body_carries s b n (suc (suc (suc (suc zero)))) = counted_carries 1 32 _ (b + 1) n
body_carries s b n (suc (suc (suc (suc (suc k))))) = counted_carries 2 300 _ (b + 2) n

record_carries : (last : ℕ) (s : List ℕ) (at : ℕ) → carries (before.record_from last s at) ≡ false
unfolding before.record_from
record_carries last s at =
    let n = half s at in
    let kind = half s (at + 2) in
    let b = at + 4 in
    unless_carries
    (first_of
    (when (ltb (length s - at) 4) 11
    ∷ when (ltb last kind) 12
    ∷ when (not (before.length_fits kind n)) 12
    ∷ when (ltb (length s - b) n) 11
    ∷ []))
    (before.body_from s b n kind) (body_carries s b n kind)

-- so it is taken as it was, with marks of 0
take_same : (s : List ℕ) (y : Reader) (r : Record) → carries r ≡ false → take_record s (as_now y) r ≡ as_now (before.take_one s y r)
unfolding take_record before.take_one
take_same s y (Position p) h =
    let d = y.drawn in
    limited_same (ltb point_numbers (length d.positions + 3)) y (reader (end_of y.at (Position p)) 0 false (with_position (values_of (Position p)) d))
take_same s y (Texture t) h =
    let d = y.drawn in
    limited_same (ltb texel_numbers (length d.textures + 2)) y (reader (end_of y.at (Texture t)) 0 false (with_texture (values_of (Texture t)) d))
take_same s y (Normal p) h =
    let d = y.drawn in
    limited_same (ltb point_numbers (length d.normals + 3)) y (reader (end_of y.at (Normal p)) 0 false (with_normal (values_of (Normal p)) d))
take_same s y (Face a n false) h = face_same (ltb n 3) s a n y
take_same s y (Face a n true) h = true_false h
take_same s y End h = refl
take_same s y (Refused n) h = refl

-- ---- record by record

or_second : (a b : Bool) → a ≡ false → (a || b) ≡ b
or_second a b e = rw e

module _ (last : ℕ) (l : 4 ≤ last) (u : last ≤ 5) (s : List ℕ) (y : Reader) where
  -- one record more, of either reader
  abbrev next : Reader
  next = take_record s (as_now y) (record_from s y.at)

  abbrev next_before : Reader
  next_before = before.take_one s y (before.record_from last s y.at)

  old_on : (f : ℕ) → going y ≡ true → before.read_from last (suc f) s y ≡ before.read_from last f s next_before
  unfolding before.read_from
  old_on f e = rw (e, before.read_from)

  old_off : (f : ℕ) → going y ≡ false → before.read_from last f s y ≡ y
  unfolding before.read_from
  old_off zero e = refl
  old_off (suc f) e = rw (e, before.read_from)

  places_on : (f : ℕ) → going y ≡ true → places_from (suc f) s (as_now y) ≡ y.at ∷ places_from f s next
  unfolding places_from
  places_on f e = rw (e, places_from)

  places_off : (f : ℕ) → going y ≡ false → places_from f s (as_now y) ≡ []
  unfolding places_from
  places_off zero e = refl
  places_off (suc f) e = rw (e, places_from)

  next_same : later_at last s y.at ≡ false → next ≡ as_now next_before
  next_same h =
      ap (take_record s (as_now y)) (record_same last l u s y.at h)
      ∙ take_same s y (before.record_from last s y.at) (record_carries last s y.at)

module _ (last : ℕ) (l : 4 ≤ last) (u : last ≤ 5) (s : List ℕ) where
  from_same : (f : ℕ) (y : Reader) → some (later_at last s) (places_from f s (as_now y)) ≡ false → read_from f s (as_now y) ≡ as_now (before.read_from last f s y)
  unfolding read_from before.read_from
  from_same zero y h = refl
  from_same (suc f) y h =
      by_cases (going y)
      (λ e.
      let here = later_at last s y.at in
      let rest = some (later_at last s) (places_from f s (next last l u s y)) in
      let g : (here || rest) ≡ false = sym (ap (some (later_at last s)) (places_on last l u s y f e)) ∙ h in
      let same : next last l u s y ≡ as_now (next_before last l u s y) = next_same last l u s y (or_false_left here rest g) in
      read_on f s (as_now y) e
      ∙ ap (read_from f s) same
      ∙ from_same f (next_before last l u s y) (sym (ap (λ x. some (later_at last s) (places_from f s x)) same) ∙ or_false_right here rest g)
      ∙ ap as_now (sym (old_on last l u s y f e)))
      (λ e. read_off (suc f) s (as_now y) e ∙ ap as_now (sym (old_off last l u s y (suc f) e)))

  -- the old reader stops at the first record of a later kind
  from_stops : (f : ℕ) (y : Reader) → some (later_at last s) (places_from f s (as_now y)) ≡ true → (before.read_from last f s y).number ≡ 12
  unfolding places_from take_record before.take_one
  from_stops zero y h = true_false (sym h)
  from_stops (suc f) y h =
      by_cases (going y)
      (λ e.
      by_cases (later_at last s y.at)
      (λ w.
      let stop = reader y.at 12 false y.drawn in
      let stopped : next_before last l u s y ≡ stop = ap (before.take_one s y) (record_stops last l u s y.at w) in
      ap (λ x. x.number) (old_on last l u s y f e ∙ ap (before.read_from last f s) stopped ∙ old_off last l u s stop f refl))
      (λ w.
      let rest = some (later_at last s) (places_from f s (next last l u s y)) in
      let g : (later_at last s y.at || rest) ≡ true = sym (ap (some (later_at last s)) (places_on last l u s y f e)) ∙ h in
      ap (λ x. x.number) (old_on last l u s y f e)
      ∙ from_stops f (next_before last l u s y)
      (sym (ap (λ x. some (later_at last s) (places_from f s x)) (next_same last l u s y w)) ∙ sym (or_second (later_at last s y.at) rest w) ∙ g)))
      (λ e. true_false (sym (sym (ap (some (later_at last s)) (places_off last l u s y (suc f) e)) ∙ h)))

  -- ---- the whole file

  same_all : meets_later last s ≡ false → read_all s ≡ as_now (before.read_all last s)
  unfolding record_places read_all before.read_all
  same_all h = from_same (suc (length s)) (reader 0 0 false nothing) h

  without : meets_later last s ≡ false → ReadAsBefore last s
  unfolding reading_number before.reading_number panel_mesh mesh_drawn before.panel_mesh before.faces_kept
  without h =
      let e : read_all s ≡ as_now (before.read_all last s) = same_all h in
      let d = (before.read_all last s).drawn in
      record {
        number = λ rooms.
            ap (λ x. first_of (when (short rooms) 9 ∷ finish s x ∷ [])) e
            ∙ ap (λ (k : ℕ). first_of (when (short rooms) 9 ∷ k ∷ [])) (finish_same s (before.read_all last s));
        mesh =
            ap (λ x. mesh_drawn x.drawn) e
            ∙ ap₂ (mesh_of d.positions d.textures d.normals) (ap (each joined) (kept_same d.faces)) (sizes_same d.faces);
      }

  stops : (rooms : List Lent) → short rooms ≡ false → meets_later last s ≡ true → before.reading_number last rooms s ≡ 12
  unfolding record_places before.read_all before.reading_number
  stops rooms r h =
      let x = before.read_from last (suc (length s)) s (reader 0 0 false nothing) in
      rw (r, sym (end_refused s x 12 (λ z. omega arith) (from_stops (suc (length s)) (reader 0 0 false nothing) h)))

pub without_kind_6 : WithoutKind6
without_kind_6 = without 5 (omega arith) (omega arith)

pub without_kind_5 : WithoutKind5
without_kind_5 = without 4 (omega arith) (omega arith)

pub mesh_was : MeshWas
unfolding before.panel_mesh before.faces_kept mesh_drawn
mesh_was last s = refl

pub old_reader_stops : OldReaderStops
old_reader_stops last s rooms l u r h = stops last l u s rooms r h

pub taken_stays_taken : TakenStaysTaken
unfolding short
taken_stays_taken last s l u h =
    by_cases (meets_later last s)
    (λ w. absurd (let z : ◌≡◌ {A = ℕ} 0 12 = sym h ∙ old_reader_stops last s [] l u refl w in omega arith))
    (without last l u s)
