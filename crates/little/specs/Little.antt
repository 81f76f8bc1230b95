-- Little-endian numbers: what the bytes from a place on say, and the bytes of a number, the lowest first. Assumes nothing.
use Rattle.std.specs.Prelude.{ℕ, ◌+◌, ◌*◌, ◌/◌, ◌%◌, ◌<◌, List, [], ◌∷◌, ◌++◌, get_or}

-- how many values a byte has, and two, four and eight bytes
abbrev pub byte_values : ℕ
byte_values = 256

abbrev pub half_values : ℕ
half_values = byte_values * byte_values

abbrev pub word_values : ℕ
word_values = half_values * half_values

abbrev pub long_values : ℕ
long_values = word_values * word_values

-- a byte, and numbers of two, four and eight bytes
abbrev pub byte : List ℕ → ℕ → ℕ
byte s i = get_or s i 0

unfoldable pub half : List ℕ → ℕ → ℕ
half s i = byte s i + byte_values * byte s (i + 1)

unfoldable pub word : List ℕ → ℕ → ℕ
word s i = half s i + half_values * half s (i + 2)

unfoldable pub long : List ℕ → ℕ → ℕ
long s i = word s i + word_values * word s (i + 4)

-- the two, four and eight lowest bytes of a number
unfoldable pub half_bytes : ℕ → List ℕ
half_bytes x = x % byte_values ∷ x / byte_values % byte_values ∷ []

unfoldable pub word_bytes : ℕ → List ℕ
word_bytes x = half_bytes x ++ half_bytes (x / half_values)

unfoldable pub long_bytes : ℕ → List ℕ
long_bytes x = word_bytes x ++ word_bytes (x / word_values)

-- a list whose every number is a byte
abbrev pub Bytes : List ℕ → Type 0
Bytes s = (k : ℕ) → byte s k < byte_values
