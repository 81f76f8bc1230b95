-- Text as bytes: words, decimal numbers and lines. Assumes nothing.
use Rattle.std.specs.Prelude.{ℕ, zero, suc, ◌+◌, ◌/◌, ◌%◌, true, false, List, [], ◌∷◌, ◌++◌, ltb}
use Prim.Native.Char.{code}
use Prim.Native.String.{String, [] as []ˢ, ◌∷◌ as ◌∷ˢ◌}
use Rattle.lists.specs.Lists.{each}

-- the bytes of a word, one for each character
abbrev pub bytes : String → List ℕ
bytes []ˢ = []
bytes (c ∷ˢ w) = code c ∷ bytes w

-- the byte of a digit: that of 0 is 48
abbrev pub digit_byte : ℕ → ℕ
digit_byte d = 48 + d

-- the decimal digits of n, no leading zeros. The first argument bounds their number: n is enough.
unfoldable pub decimal_in : ℕ → ℕ → List ℕ
decimal_in zero n = digit_byte n ∷ []
decimal_in (suc f) n =
    elim (ltb n 10) [ true ↦ digit_byte n ∷ [] | false ↦ decimal_in f (n / 10) ++ digit_byte (n % 10) ∷ [] ]

unfoldable pub decimal : ℕ → List ℕ
decimal n = decimal_in n n

-- words, each behind a space (32)
abbrev pub spaced : List (List ℕ) → List ℕ
spaced ws = each (λ (w : List ℕ). 32 ∷ w) ws

-- a line: its first word, each other word behind a space, and a line feed (10)
unfoldable pub line : String → List (List ℕ) → List ℕ
line w ws = bytes w ++ spaced ws ++ 10 ∷ []
