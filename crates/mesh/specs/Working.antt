-- What the functions of the crate hand to one another; a caller needs none of it. Assumes nothing.
use Rattle.std.specs.Prelude.{ℕ, Bool, cond, ◌||◌, nat_lt}
use Rattle.mesh.specs.Mesh.{missing}
use Rattle.mesh.specs.Table.{beyond_unless_missing}

-- a count in 32 bits: no index is larger than the mark of a missing one
abbrev pub narrow : ℕ → ℕ
narrow n = cond (nat_lt n missing) n missing

-- a corner is astray where `last` is the last position, and t texture points and n normals are there
abbrev pub strays : ℕ → ℕ → ℕ → ℕ → ℕ → ℕ → Bool
strays last t n position texture normal =
    nat_lt last position || beyond_unless_missing t texture || beyond_unless_missing n normal
