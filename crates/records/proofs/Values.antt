-- The values of a record pass a test where those of every body do; and whatever the bytes, they are finite. Assumes nothing.
use mathlib.Core.Path.{◌≡◌, refl}
use mathlib.Core.Bool.{Bool, true, false, not}
use mathlib.Core.List.{List, [], ◌∷◌}
use Prim.Native.Nat.{ℕ, zero, suc, ◌+◌, ◌*◌, ◌-◌}
use lib.ListN.{length}
use lib.Dec.{ltb, eqb}
use lib.Ieee.{Float}
use borrow.Author.Tests.{not-false}
use Rattle.lists.specs.Lists.{every}
use Rattle.floating.specs.Limits.{finite}
use Rattle.little.specs.Little.{half}
use Rattle.mesh.specs.Limits.{ring_limit}
use Rattle.mesh.specs.Table.{when, first_of}
use Rattle.mesh.proofs.Numbers.{when_not}
use Rattle.records.specs.declared.Record.{Record}
use Rattle.records.specs.declared.Record.TheVariants.{Position, Texture, Normal, Face}
use Rattle.records.specs.Lengths.{header_length, corner_size, byte_count, wide_count, byte_face_limit, last_kind}
use Rattle.records.specs.Records.{values_of, length_fits, unless, point_from, texel_from, attribute, ring_from, lacks_marks, counted, face_from, wide_face_from, marked_face_from, body_from, record_from}

module _ (p : Float → Bool) where
  -- a refusal has no values, and neither has a face
  pub unless_passes : (n : ℕ) (r : Record) → (n ≡ 0 → every p (values_of r) ≡ true) → every p (values_of (unless n r)) ≡ true
  unless_passes zero r h = h refl
  unless_passes (suc n) r h = refl

  pub attribute_passes : (r : Record) → every p (values_of r) ≡ true → every p (values_of (attribute r)) ≡ true
  unfolding attribute
  attribute_passes r h = unless_passes (when (not (every finite (values_of r))) 14) r (λ e. h)

  counted_passes : (m : Bool) (s : List ℕ) (w limit c a n : ℕ) → every p (values_of (counted m s w limit c a n)) ≡ true
  unfolding counted
  counted_passes m s w limit c a n =
      unless_passes
      (first_of (when (not (eqb (w + corner_size m * c) n)) 12 ∷ when (lacks_marks m (ring_from m s c a)) 12 ∷ when (ltb limit c) 3 ∷ []))
      (Face a c m) (λ e. refl)

  pub face_passes : (s : List ℕ) (b n : ℕ) → every p (values_of (face_from s b n)) ≡ true
  unfolding face_from
  face_passes s b n = counted_passes false s byte_count byte_face_limit _ (b + byte_count) n

  pub wide_face_passes : (s : List ℕ) (b n : ℕ) → every p (values_of (wide_face_from s b n)) ≡ true
  unfolding wide_face_from
  wide_face_passes s b n = counted_passes false s wide_count ring_limit _ (b + wide_count) n

  pub marked_face_passes : (s : List ℕ) (b n : ℕ) → every p (values_of (marked_face_from s b n)) ≡ true
  unfolding marked_face_from
  marked_face_passes s b n = counted_passes true s wide_count ring_limit _ (b + wide_count) n

  pub record_passes :
      (s : List ℕ) → ((b n k : ℕ) → every p (values_of (body_from s b n k)) ≡ true) → (at : ℕ) → every p (values_of (record_from s at)) ≡ true
  unfolding record_from
  record_passes s h at =
      let n = half s at in
      let kind = half s (at + 2) in
      let b = at + header_length in
      unless_passes
      (first_of
      (when (ltb (length s - at) header_length) 11
      ∷ when (ltb last_kind kind) 12
      ∷ when (not (length_fits kind n)) 12
      ∷ when (ltb (length s - b) n) 11
      ∷ []))
      (body_from s b n kind) (λ e. h b n kind)

-- ---- finite

attribute_finite : (r : Record) → every finite (values_of (attribute r)) ≡ true
unfolding attribute
attribute_finite r =
    let all = every finite (values_of r) in
    unless_passes finite (when (not all) 14) r (λ e. not-false all (when_not (not all) 13 e))

body_finite : (s : List ℕ) (b n k : ℕ) → every finite (values_of (body_from s b n k)) ≡ true
unfolding body_from
body_finite s b n zero = refl
body_finite s b n (suc zero) = attribute_finite (Position (point_from s b))
body_finite s b n (suc (suc zero)) = attribute_finite (Texture (texel_from s b))
body_finite s b n (suc (suc (suc zero))) = attribute_finite (Normal (point_from s b))
body_finite s b n (suc (suc (suc (suc zero)))) = face_passes finite s b n
body_finite s b n (suc (suc (suc (suc (suc zero))))) = wide_face_passes finite s b n
body_finite s b n (suc (suc (suc (suc (suc (suc k)))))) = marked_face_passes finite s b n

pub record_finite : (s : List ℕ) (at : ℕ) → every finite (values_of (record_from s at)) ≡ true
record_finite s = record_passes finite s (body_finite s)
