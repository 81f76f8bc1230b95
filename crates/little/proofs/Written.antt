-- Reading undoes writing, in the middle of other bytes; and writing undoes reading where every byte is below 256. Assumes nothing.
use mathlib.Core.Path.{◌≡◌, refl, sym, ap, ap₂, ◌∙◌}
use mathlib.Core.List.{List, [], ◌∷◌, ◌++◌, append_assoc}
use Prim.Native.Nat.{ℕ, suc, ◌+◌, ◌*◌, ◌/◌, ◌%◌, ◌<◌}
use native.Mathlib.Nat.{add-zero}
use native.Mathlib.Omega.{arith}
use lib.ListN.{length, get_or, drop}
use lib.Seq.{drop_at, drop-cons, drop-drop, get_or-drop}
use Rattle.little.specs.Little.{half_values, word_values, long_values, byte, half, word, long, half_bytes, word_bytes, long_bytes}
use Rattle.little.specs.Promises.{WrittenThenRead, ReadThenWritten, ReadingUndoesWriting, WritingUndoesReading}
pub use Rattle.little.specs.Little.{Bytes}

-- ---- lengths

pub length_half : (x : ℕ) → length (half_bytes x) ≡ 2
unfolding half_bytes
length_half x = refl

pub length_word : (x : ℕ) → length (word_bytes x) ≡ 4
unfolding word_bytes half_bytes
length_word x = refl

pub length_long : (x : ℕ) → length (long_bytes x) ≡ 8
unfolding long_bytes word_bytes half_bytes
length_long x = refl

-- ---- bytes that stand at a place of a longer list

module _ {A : Type 0} where
  -- behind n bytes that stand at i the rest stands at i + n
  pub behind : (s : List A) (i n : ℕ) (a r : List A) → length a ≡ n → drop i s ≡ a ++ r → drop (i + n) s ≡ r
  behind s i n a r e h = sym (drop-drop n i s) ∙ ap (drop n) h ∙ drop_at a r n e

  -- and the first part of what stands there stands there
  pub in_front : (s : List A) (i : ℕ) (a b r : List A) → drop i s ≡ (a ++ b) ++ r → drop i s ≡ a ++ (b ++ r)
  in_front s i a b r h = h ∙ append_assoc a b r

pub byte_here : (s : List ℕ) (i x : ℕ) (r : List ℕ) → drop i s ≡ x ∷ r → byte s i ≡ x
byte_here s i x r h = ap (byte s) (sym (add-zero i)) ∙ sym (get_or-drop i s 0 0) ∙ ap (λ (l : List ℕ). get_or l 0 0) h

-- ---- reading undoes writing

mod_half : (x : ℕ) → x % 256 + 256 * (x / 256 % 256) ≡ x % 65536
mod_half x = let y : ℕ = x / 256 in omega arith

pub half_written : WrittenThenRead half half_bytes half_values
unfolding half half_bytes
half_written s i x r h =
    let a : byte s i ≡ x % 256 = byte_here s i (x % 256) (x / 256 % 256 ∷ r) h in
    let b : byte s (i + 1) ≡ x / 256 % 256 = byte_here s (i + 1) (x / 256 % 256) r (behind s i 1 (x % 256 ∷ []) (x / 256 % 256 ∷ r) refl h) in
    ap₂ (λ (u v : ℕ). u + 256 * v) a b ∙ mod_half x

mod_word : (x : ℕ) → x % 65536 + 65536 * (x / 65536 % 65536) ≡ x % 4294967296
mod_word x = omega arith

pub word_written : WrittenThenRead word word_bytes word_values
unfolding word word_bytes
word_written s i x r h =
    let e = in_front s i (half_bytes x) (half_bytes (x / 65536)) r h in
    let a : half s i ≡ x % 65536 = half_written s i x (half_bytes (x / 65536) ++ r) e in
    let b : half s (i + 2) ≡ x / 65536 % 65536 =
    half_written s (i + 2) (x / 65536) r (behind s i 2 (half_bytes x) (half_bytes (x / 65536) ++ r) (length_half x) e) in
    ap₂ (λ (u v : ℕ). u + 65536 * v) a b ∙ mod_word x

mod_long : (x : ℕ) → x % 4294967296 + 4294967296 * (x / 4294967296 % 4294967296) ≡ x % 18446744073709551616
mod_long x = omega arith

pub long_written : WrittenThenRead long long_bytes long_values
unfolding long long_bytes
long_written s i x r h =
    let e = in_front s i (word_bytes x) (word_bytes (x / 4294967296)) r h in
    let a : word s i ≡ x % 4294967296 = word_written s i x (word_bytes (x / 4294967296) ++ r) e in
    let b : word s (i + 4) ≡ x / 4294967296 % 4294967296 =
    word_written s (i + 4) (x / 4294967296) r (behind s i 4 (word_bytes x) (word_bytes (x / 4294967296) ++ r) (length_word x) e) in
    ap₂ (λ (u v : ℕ). u + 4294967296 * v) a b ∙ mod_long x

pub reading_undoes_writing : ReadingUndoesWriting
reading_undoes_writing = record { two = half_written; four = word_written; eight = long_written }

-- ---- only the lowest bytes count

half_low : (x y : ℕ) → half_bytes (x + 65536 * y) ≡ half_bytes x
unfolding half_bytes
half_low x y =
    let a : (x + 65536 * y) % 256 ≡ x % 256 = omega arith in
    let b : (x + 65536 * y) / 256 ≡ x / 256 + 256 * y = omega arith in
    let c : (x / 256 + 256 * y) % 256 ≡ x / 256 % 256 = omega arith in
    ap₂ (λ (u v : ℕ). u ∷ v ∷ []) a (ap (λ (n : ℕ). n % 256) b ∙ c)

word_low : (x y : ℕ) → word_bytes (x + 4294967296 * y) ≡ word_bytes x
unfolding word_bytes
word_low x y =
    let a : x + 4294967296 * y ≡ x + 65536 * (65536 * y) = omega arith in
    let b : (x + 4294967296 * y) / 65536 ≡ x / 65536 + 65536 * y = omega arith in
    ap₂ (λ (u v : List ℕ). u ++ v) (ap half_bytes a ∙ half_low x (65536 * y)) (ap half_bytes b ∙ half_low (x / 65536) y)

-- ---- writing undoes reading, where every byte is below 256

pub half_again : ReadThenWritten half half_bytes 2
unfolding half half_bytes
half_again s i h l =
    let a = byte s i in
    let b = byte s (i + 1) in
    let ha : a < 256 = h i in
    let hb : b < 256 = h (i + 1) in
    let x : (a + 256 * b) % 256 ≡ a = omega arith in
    let y : (a + 256 * b) / 256 ≡ b = omega arith in
    let z : b % 256 ≡ b = omega arith in
    let i1 : suc i ≡ i + 1 = omega arith in
    let i2 : suc (i + 1) ≡ i + 2 = omega arith in
    drop-cons s i 0 (omega arith)
    ∙ ap (λ (j : ℕ). a ∷ drop j s) i1
    ∙ ap (λ (t : List ℕ). a ∷ t) (drop-cons s (i + 1) 0 (omega arith) ∙ ap (λ (j : ℕ). b ∷ drop j s) i2)
    ∙ ap₂ (λ (u v : ℕ). u ∷ v ∷ drop (i + 2) s) (sym x) (sym (ap (λ (n : ℕ). n % 256) y ∙ z))

small_half : (s : List ℕ) (i : ℕ) → Bytes s → half s i < 65536
unfolding half
small_half s i h = omega (arith, h i, h (i + 1))

pub word_again : ReadThenWritten word word_bytes 4
unfolding word word_bytes
word_again s i h l =
    let a = half s i in
    let b = half s (i + 2) in
    let ha : a < 65536 = small_half s i h in
    let e : (a + 65536 * b) / 65536 ≡ b = omega arith in
    let j : i + 2 + 2 ≡ i + 4 = omega arith in
    half_again s i h (omega arith)
    ∙ ap₂ (λ (u v : List ℕ). u ++ v) (sym (half_low a b)) (half_again s (i + 2) h (omega arith) ∙ ap₂ (λ (x k : ℕ). half_bytes x ++ drop k s) (sym e) j)
    ∙ sym (append_assoc (half_bytes (a + 65536 * b)) (half_bytes ((a + 65536 * b) / 65536)) (drop (i + 4) s))

small_word : (s : List ℕ) (i : ℕ) → Bytes s → word s i < 4294967296
unfolding word
small_word s i h = omega (arith, small_half s i h, small_half s (i + 2) h)

pub long_again : ReadThenWritten long long_bytes 8
unfolding long long_bytes
long_again s i h l =
    let a = word s i in
    let b = word s (i + 4) in
    let ha : a < 4294967296 = small_word s i h in
    let e : (a + 4294967296 * b) / 4294967296 ≡ b = omega arith in
    let j : i + 4 + 4 ≡ i + 8 = omega arith in
    word_again s i h (omega arith)
    ∙ ap₂ (λ (u v : List ℕ). u ++ v) (sym (word_low a b)) (word_again s (i + 4) h (omega arith) ∙ ap₂ (λ (x k : ℕ). word_bytes x ++ drop k s) (sym e) j)
    ∙ sym (append_assoc (word_bytes (a + 4294967296 * b)) (word_bytes ((a + 4294967296 * b) / 4294967296)) (drop (i + 8) s))

pub writing_undoes_reading : WritingUndoesReading
writing_undoes_reading = record { two = half_again; four = word_again; eight = long_again }
