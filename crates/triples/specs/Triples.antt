-- Whole-number coordinates in a file, as document 02, CR 13, has them: triples, four-byte signed, little-endian, one behind the other.
-- Assumes nothing.
use Rattle.std.specs.Prelude.{cond, List, map, ℕ, ◌*◌, ◌-◌, ltb, ℤ, pos, neg_ℤ}
use Rattle.lists.specs.Lists.{span}
use Rattle.little.specs.Little.{word_values, word}

-- how many bytes a coordinate has
abbrev pub coordinate_bytes : ℕ
coordinate_bytes = 4

-- four bytes below 2^31 say themselves; any other say minus what they lack to 2^32
abbrev pub sign_limit : ℕ
sign_limit = 2147483648

unfoldable pub signed : ℕ → ℤ
signed x = cond (ltb x sign_limit) (pos x) (neg_ℤ (pos (word_values - x)))

-- coordinate k, and the first n of them
unfoldable pub coordinate_at : List ℕ → ℕ → ℤ
coordinate_at bytes k = signed (word bytes (coordinate_bytes * k))

unfoldable pub coordinates_in : List ℕ → ℕ → List ℤ
coordinates_in bytes n = map (coordinate_at bytes) (span 0 n)
