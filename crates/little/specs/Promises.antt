-- Reading and writing undo each other, at two, four and eight bytes. Proved in proofs/. Assumes nothing.
use Rattle.std.specs.Prelude.{◌≡◌, List, ◌++◌, ℕ, ◌+◌, ◌%◌, ◌≤◌, length, drop}
use Rattle.little.specs.Little.{half_values, word_values, long_values, half, word, long, half_bytes, word_bytes, long_bytes, Bytes}

-- writing then reading gives the number back: where the bytes of x stand at place i, whatever stands before and behind them, the bytes
-- from there on say x, or its lowest bytes where x has more
abbrev pub WrittenThenRead : (List ℕ → ℕ → ℕ) → (ℕ → List ℕ) → ℕ → Type 0
WrittenThenRead reading bytes values = (s : List ℕ) (i x : ℕ) (r : List ℕ) → drop i s ≡ bytes x ++ r → reading s i ≡ x % values

-- reading then writing gives the bytes back: the n bytes at place i are those of the number that they say
abbrev pub ReadThenWritten : (List ℕ → ℕ → ℕ) → (ℕ → List ℕ) → ℕ → Type 0
ReadThenWritten reading bytes n =
    (s : List ℕ) (i : ℕ) → Bytes s → i + n ≤ length s → drop i s ≡ bytes (reading s i) ++ drop (i + n) s

pub record ReadingUndoesWriting : Type 0 where
  pub two : WrittenThenRead half half_bytes half_values
  pub four : WrittenThenRead word word_bytes word_values
  pub eight : WrittenThenRead long long_bytes long_values

pub record WritingUndoesReading : Type 0 where
  pub two : ReadThenWritten half half_bytes 2
  pub four : ReadThenWritten word word_bytes 4
  pub eight : ReadThenWritten long long_bytes 8
