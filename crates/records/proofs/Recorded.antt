-- One record, row by row: an attribute, a face by its count, a record by its header and its length. Assumes nothing.
use mathlib.Core.Path.{◌≡◌, refl}
use mathlib.Core.Bool.{Bool, true, false, not}
use mathlib.Core.List.{List}
use Prim.Native.Nat.{ℕ, ◌+◌, ◌*◌, ◌-◌, ◌≤◌, ◌<◌}
use lib.ListN.{length}
use borrow.Author.Tests.{eq-eqb, lt-ltb, le-ltb}
use Rattle.lists.specs.Lists.{every}
use Rattle.floating.specs.Limits.{finite}
use Rattle.records.specs.declared.Record.{Record}
use Rattle.records.specs.declared.Record.TheVariants.{Position, Texture, Normal, Face, End, Refused}
use Rattle.little.specs.Little.{half}
use Rattle.records.specs.Lengths.{header_length, corner_size}
use Rattle.records.specs.Lengths.{last_kind}
use Rattle.records.specs.Records.{number_of, values_of, length_fits, attribute, ring_from, lacks_marks, counted, body_from, record_from}

-- ---- an attribute, with b whether its coordinates are finite

module _ (r : Record) (b : Bool) (e : b ≡ every finite (values_of r)) where
  pub attribute_good : b ≡ true → r ≡ attribute r
  unfolding attribute
  attribute_good h = rw (← e, h)

-- ---- a face, with c its count of w bytes

module _ (m : Bool) (s : List ℕ) (w limit c a n : ℕ) where
  module _ (h : w + corner_size m * c ≡ n) where
    pub face_bare : lacks_marks m (ring_from m s c a) ≡ true → Refused 12 ≡ counted m s w limit c a n
    unfolding counted
    face_bare b = rw (eq-eqb (w + corner_size m * c) n h, b)

    module _ (b : lacks_marks m (ring_from m s c a) ≡ false) where
      pub face_many : limit < c → Refused 3 ≡ counted m s w limit c a n
      unfolding counted
      face_many l = rw (eq-eqb (w + corner_size m * c) n h, b, lt-ltb limit c l)

      pub face_good : c ≤ limit → Face a c m ≡ counted m s w limit c a n
      unfolding counted
      face_good l = rw (eq-eqb (w + corner_size m * c) n h, b, le-ltb limit c l)

-- ---- a record, with n and k its length and its kind

module _ (s : List ℕ) (at n k : ℕ) (h : header_length ≤ length s - at) (en : n ≡ half s at) (ek : k ≡ half s (at + 2)) where
  pub kind_unknown : last_kind < k → Refused 12 ≡ record_from s at
  unfolding record_from
  kind_unknown l = rw (le-ltb (length s - at) header_length h, ← ek, lt-ltb last_kind k l)

  pub length_wrong : k ≤ last_kind → not (length_fits k n) ≡ true → Refused 12 ≡ record_from s at
  unfolding record_from
  length_wrong l w = rw (le-ltb (length s - at) header_length h, ← ek, ← en, le-ltb last_kind k l, w)

  pub body_whole : k ≤ last_kind → not (length_fits k n) ≡ false → n ≤ length s - (at + header_length) → body_from s (at + header_length) n k ≡ record_from s at
  unfolding record_from
  body_whole l w c = rw (le-ltb (length s - at) header_length h, ← ek, ← en, le-ltb last_kind k l, w, le-ltb (length s - (at + header_length)) n c)

-- ---- answers of other variants

pub not_refused : (r : Record) → ((n : ℕ) → r ≡ Refused n → ⊥) → 0 ≡ number_of r
not_refused (Position p) k = refl
not_refused (Texture t) k = refl
not_refused (Normal p) k = refl
not_refused (Face a n m) k = refl
not_refused End k = refl
not_refused (Refused n) k = absurd (k n refl)
