-- The limits of document 01 on a mesh and how many numbers a point and a corner have, each named once. Assumes nothing.
use Rattle.std.specs.Prelude.{ℕ, ◌*◌}

-- how many numbers a position or normal, a texture point and a corner have
abbrev pub point_width : ℕ
point_width = 3

abbrev pub texel_width : ℕ
texel_width = 2

abbrev pub width : ℕ
width = 4

-- the largest number that a list of corners or of sizes can hold, 32 bits each
abbrev pub largest : ℕ
largest = 4294967295

-- the fewest and the most corners that a face may have
abbrev pub least_ring : ℕ
least_ring = 3

abbrev pub ring_limit : ℕ
ring_limit = 300

-- the most positions, texture points or normals, the most corners and the most faces that a mesh may have
abbrev pub entry_limit : ℕ
entry_limit = 2048

abbrev pub corner_limit : ℕ
corner_limit = 4096

abbrev pub face_limit : ℕ
face_limit = 1365

-- how many numbers they have: positions or normals, texture points, corners
abbrev pub point_numbers : ℕ
point_numbers = entry_limit * point_width

abbrev pub texel_numbers : ℕ
texel_numbers = entry_limit * texel_width

abbrev pub corner_numbers : ℕ
corner_numbers = corner_limit * width
