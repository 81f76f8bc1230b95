-- Bytes that are stored one behind the other: two parts, a header, a number. Assumes nothing.
use mathlib.Core.Path.{◌≡◌, sym, ap, ap₂, ◌∙◌}
use mathlib.Core.List.{List, ◌++◌}
use Prim.Native.Nat.{ℕ, ◌+◌}
use native.Mathlib.Omega.{arith}
use lib.ListN.{length, length-append}
use lib.Seq.{sets, length-sets}
use lib.Ieee.{Float, binary64, to_bits}
use Rattle.lists.proofs.Writing.{sets_append}
use Rattle.little.specs.Little.{half_bytes, word_bytes, long_bytes}
use Rattle.little.proofs.Written.{length_half, length_word}
use Rattle.written.specs.Pieces.{coordinate_bytes, header_of}
use Rattle.written.proofs.Lengths.{length_coordinate}
use Rattle.saving.specs.Working.{Stored}

-- ---- two parts

pub stored_both : (a b o o1 o2 : List ℕ) (at r1 r2 : ℕ) → Stored a o o1 at r1 → Stored b o1 o2 r1 r2 → Stored (a ++ b) o o2 at r2
stored_both a b o o1 o2 at r1 r2 f g = record {
  file = g.file ∙ ap₂ (λ (x : List ℕ) (i : ℕ). sets x i b) f.file f.place ∙ sym (sets_append o at a b);
  place = omega (arith, g.place, f.place, length-append a b);
}

pub stored_as : (a b o o' : List ℕ) (at r : ℕ) → a ≡ b → Stored a o o' at r → Stored b o o' at r
stored_as a b o o' at r e f = rw e at f

-- the buffer stays as long
pub still_long : (a o o' : List ℕ) (at r : ℕ) → Stored a o o' at r → length o' ≡ length o
still_long a o o' at r f = ap length f.file ∙ length-sets o at a

-- ---- a header

pub header_stored :
    (n kind : ℕ) (o o1 o2 : List ℕ) (at : ℕ) → o1 ≡ sets o at (half_bytes n) → o2 ≡ sets o1 (at + 2) (half_bytes kind)
    → Stored (header_of n kind) o o2 at (at + 4)
unfolding header_of
header_stored n kind o o1 o2 at e f =
    stored_both (half_bytes n) (half_bytes kind) o o1 o2 at (at + 2) (at + 4)
    (record { file = e; place = omega (arith, length_half n) })
    (record { file = f; place = omega (arith, length_half kind) })

-- ---- a coordinate, and a number of four bytes

pub coordinate_stored :
    (x : Float) (b : ℕ) (o o' : List ℕ) (at : ℕ) → b ≡ to_bits binary64 x → o' ≡ sets o at (long_bytes b)
    → Stored (coordinate_bytes x) o o' at (at + 8)
unfolding coordinate_bytes
coordinate_stored x b o o' at h e = record {
  file = e ∙ ap (λ (n : ℕ). sets o at (long_bytes n)) h;
  place = omega (arith, length_coordinate x);
}

pub word_stored : (x : ℕ) (o o' : List ℕ) (at : ℕ) → o' ≡ sets o at (word_bytes x) → Stored (word_bytes x) o o' at (at + 4)
word_stored x o o' at e = record { file = e; place = omega (arith, length_word x) }
