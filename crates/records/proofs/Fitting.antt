-- A record stands within the file: where it ends, and what a refusal and a face are. Assumes nothing.
use mathlib.Core.Path.{◌≡◌, refl}
use mathlib.Core.Bool.{Bool, true, false, not}
use mathlib.Core.List.{List, [], ◌∷◌}
use Prim.Native.Nat.{ℕ, zero, suc, ◌+◌, ◌*◌, ◌-◌, ◌≤◌}
use native.Mathlib.Omega.{arith}
use lib.ListN.{length}
use lib.Dec.{ltb, eqb}
use borrow.Author.Tests.{ltb-false, not-false, eqb-true}
use Rattle.lists.specs.Lists.{every}
use Rattle.floating.specs.Limits.{finite}
use Rattle.mesh.specs.Limits.{ring_limit}
use Rattle.mesh.specs.Table.{when, first_of}
use Rattle.mesh.proofs.Numbers.{first_head, first_tail, when_not}
use Rattle.records.specs.declared.Record.{Record}
use Rattle.records.specs.declared.Record.TheVariants.{Position, Texture, Normal, Face, Refused}
use Rattle.little.specs.Little.{half}
use Rattle.records.specs.Lengths.{header_length, corner_size, point_length, texel_length, byte_count, wide_count, last_kind}
use Rattle.records.specs.Records.{values_of, end_of, Placed, length_fits, unless, point_from, texel_from, attribute, ring_from}
use Rattle.records.specs.Records.{lacks_marks, counted, face_from, wide_face_from, marked_face_from, body_from, record_from}

-- an answer at a place of a file of that size
pub record Fitted (size at : ℕ) (r : Record) : Type 0 where
  pub fits : end_of at r ≤ size
  pub placed : Placed at r

-- a refusal fits, and what is not refused fits where nothing is given
refused_fits : (size at k : ℕ) → at ≤ size → Fitted size at (Refused (suc k))
refused_fits size at k h = record { fits = h; placed = λ e. let z : suc k ≡ 0 = e in omega arith }

unless_fits : (size at k : ℕ) (r : Record) → at ≤ size → (k ≡ 0 → Fitted size at r) → Fitted size at (unless k r)
unless_fits size at zero r h f = f refl
unless_fits size at (suc k) r h f = refused_fits size at k h

attribute_fits : (size at : ℕ) (r : Record) → at ≤ size → end_of at r ≤ size → Placed at r → Fitted size at (attribute r)
unfolding attribute
attribute_fits size at r h l p = unless_fits size at (when (not (every finite (values_of r))) 14) r h (λ e. record { fits = l; placed = p })

-- a face whose corners begin behind its count: they end where the body ends
counted_fits :
    (m : Bool) (s : List ℕ) (size at w limit c n : ℕ) → 1 ≤ w → limit ≤ ring_limit → at ≤ size → at + header_length + n ≤ size
    → Fitted size at (counted m s w limit c (at + header_length + w) n)
unfolding counted
counted_fits m s size at w limit c n some few h l =
    let a = at + header_length + w in
    let long = w + corner_size m * c in
    let unlike = when (not (eqb long n)) 12 in
    let bare = when (lacks_marks m (ring_from m s c a)) 12 in
    let many = when (ltb limit c) 3 in
    unless_fits size at (first_of (unlike ∷ bare ∷ many ∷ [])) (Face a c m) h
    (λ e.
    let i : long ≡ n = eqb-true long n (not-false (eqb long n) (when_not (not (eqb long n)) 11 (first_head unlike (bare ∷ many ∷ []) e))) in
    let last = first_tail bare (many ∷ []) (first_tail unlike (bare ∷ many ∷ []) e) in
    let j : c ≤ limit = ltb-false limit c (when_not (ltb limit c) 2 (first_head many [] last)) in
    record { fits = omega arith; placed = (omega arith, omega (arith, j, few)) })

body_fits :
    (s : List ℕ) (at n k : ℕ) → at ≤ length s → at + header_length + n ≤ length s → length_fits k n ≡ true
    → Fitted (length s) at (body_from s (at + header_length) n k)
unfolding body_from length_fits face_from wide_face_from marked_face_from
body_fits s at n zero h l e = record { fits = omega arith; placed = tt }
body_fits s at n (suc zero) h l e =
    attribute_fits (length s) at (Position (point_from s (at + header_length))) h (let i : n ≡ point_length = eqb-true n point_length e in omega arith) tt
body_fits s at n (suc (suc zero)) h l e =
    attribute_fits (length s) at (Texture (texel_from s (at + header_length))) h (let i : n ≡ texel_length = eqb-true n texel_length e in omega arith) tt
body_fits s at n (suc (suc (suc zero))) h l e =
    attribute_fits (length s) at (Normal (point_from s (at + header_length))) h (let i : n ≡ point_length = eqb-true n point_length e in omega arith) tt
body_fits s at n (suc (suc (suc (suc zero)))) h l e =
    counted_fits false s (length s) at byte_count _ _ n (omega arith) (omega arith) h l
body_fits s at n (suc (suc (suc (suc (suc zero))))) h l e =
    counted_fits false s (length s) at wide_count _ _ n (omega arith) (omega arith) h l
body_fits s at n (suc (suc (suc (suc (suc (suc k)))))) h l e =
    counted_fits true s (length s) at wide_count _ _ n (omega arith) (omega arith) h l

pub record_fits : (s : List ℕ) (at : ℕ) → at ≤ length s → Fitted (length s) at (record_from s at)
unfolding record_from
record_fits s at h =
    let n = half s at in
    let k = half s (at + 2) in
    let a = when (ltb (length s - at) header_length) 11 in
    let b = when (ltb last_kind k) 12 in
    let c = when (not (length_fits k n)) 12 in
    let d = when (ltb (length s - (at + header_length)) n) 11 in
    unless_fits (length s) at (first_of (a ∷ b ∷ c ∷ d ∷ [])) (body_from s (at + header_length) n k) h
    (λ e.
    let e1 = first_tail a (b ∷ c ∷ d ∷ []) e in
    let e2 = first_tail b (c ∷ d ∷ []) e1 in
    let e3 = first_tail c (d ∷ []) e2 in
    let i : header_length ≤ length s - at =
    ltb-false (length s - at) header_length (when_not (ltb (length s - at) header_length) 10 (first_head a (b ∷ c ∷ d ∷ []) e)) in
    let j : n ≤ length s - (at + header_length) =
    ltb-false (length s - (at + header_length)) n (when_not (ltb (length s - (at + header_length)) n) 10 (first_head d [] e3)) in
    body_fits s at n k h (omega arith) (not-false (length_fits k n) (when_not (not (length_fits k n)) 11 (first_head c (d ∷ []) e2))))
