-- What compaction comes to, for whoever goes on with its mesh. Each is said of a mesh that is accepted. Proved in proofs/. Assumes nothing.
use Rattle.std.specs.Prelude.{◌≡◌, true, map, ℕ, ◌≤◌, ◌<◌}
use Rattle.lists.specs.Lists.{has}
use Rattle.mesh.specs.Mesh.{Mesh, Corner, position, texture, normal, mark, corners_in, faces, position_count, texture_count, normal_count}
use Rattle.mesh.specs.Table.{mesh_number}
use Rattle.unused.specs.Compaction.{renumbered, compacted}

-- the result is a mesh again
abbrev pub AcceptedAgain : Mesh → Type 0
AcceptedAgain m = mesh_number (compacted m) ≡ 0

-- unused entries go: each entry of the result is used
abbrev pub EveryPositionUsed : Mesh → Type 0
EveryPositionUsed m = (i : ℕ) → i < position_count (compacted m) → has i (map position (corners_in (compacted m).corners)) ≡ true

abbrev pub EveryTextureUsed : Mesh → Type 0
EveryTextureUsed m = (i : ℕ) → i < texture_count (compacted m) → has i (map texture (corners_in (compacted m).corners)) ≡ true

abbrev pub EveryNormalUsed : Mesh → Type 0
EveryNormalUsed m = (i : ℕ) → i < normal_count (compacted m) → has i (map normal (corners_in (compacted m).corners)) ≡ true

-- no list has grown
abbrev pub PositionsFewer : Mesh → Type 0
PositionsFewer m = position_count (compacted m) ≤ position_count m

abbrev pub TexturesFewer : Mesh → Type 0
TexturesFewer m = texture_count (compacted m) ≤ texture_count m

abbrev pub NormalsFewer : Mesh → Type 0
NormalsFewer m = normal_count (compacted m) ≤ normal_count m

-- the faces are the same faces under the new numbers
abbrev pub SameFaces : Mesh → Type 0
SameFaces m = faces (compacted m) ≡ map (map (renumbered m)) (faces m)

-- and each corner has its mark yet: of a corner by itself, and of all corners in their order
abbrev pub MarkKept : Mesh → Type 0
MarkKept m = (c : Corner) → mark (renumbered m c) ≡ mark c

abbrev pub MarksKept : Mesh → Type 0
MarksKept m = map mark (corners_in (compacted m).corners) ≡ map mark (corners_in m.corners)

-- a second time changes nothing
abbrev pub SecondTimeSame : Mesh → Type 0
SecondTimeSame m = compacted (compacted m) ≡ compacted m
