-- The bits of a point in two halves, of 48 bits each: as much as four digits of a sort tell apart. Assumes nothing.
use Rattle.std.specs.Prelude.{Bool, true, false, ℕ, ◌*◌, ◌/◌, ◌%◌}
use Rattle.little.specs.Little.{half_values, word_values}

-- how many values half of a point's bits have
abbrev pub half_points : ℕ
half_points = word_values * half_values

unfoldable pub half_of : Bool → ℕ → ℕ
half_of true p = p / half_points
half_of false p = p % half_points
