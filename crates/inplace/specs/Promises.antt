-- What compaction in place comes to, read from its contract; each is a law of every call that meets it. Proved in proofs/. Assumes nothing.
use Rattle.std.specs.Prelude.{◌≡◌, List, ℕ, ◌-◌, ◌*◌, length, take, drop, replicate}
use Rattle.std.specs.Float.Ieee.{to_bits}
use Rattle.std.specs.Float.{binary64}
use Rattle.mesh.specs.Limits.{point_width, texel_width}
use Rattle.mesh.specs.Mesh.{Mesh}
use Rattle.mesh.specs.Table.{mesh_number}
use Rattle.unused.specs.Compaction.{Compacted, compacted, Result, Compaction}
use Rattle.inplace.specs.InPlace.{zero_bits, longest, in_place_number, InPlace}

-- whatever room the number list has, a mesh that is refused is answered by its own number, 1 to 5
abbrev pub MeshFirst : Type 0
MeshFirst = (m : Mesh) (s : List ℕ) → (mesh_number m ≡ 0 → ⊥) → in_place_number m s ≡ mesh_number m

-- on a refusal each count is 0
pub record NoCounts (answer : Compacted) : Type 0 where
  pub positions : answer.positions ≡ 0
  pub textures : answer.textures ≡ 0
  pub normals : answer.normals ≡ 0

abbrev pub NothingCounted : Type 0
NothingCounted =
    (m behind : Mesh) (s s' : List ℕ) (answer : Compacted) → InPlace m behind s s' answer → (answer.number ≡ 0 → ⊥) → NoCounts answer

-- on a refusal nothing moves: neither the mesh nor the number list
abbrev pub NothingMoves : Type 0
NothingMoves =
    (m behind : Mesh) (s s' : List ℕ) (answer : Compacted) → InPlace m behind s s' answer → (answer.number ≡ 0 → ⊥) → (behind ≡ m) × (s' ≡ s)

-- on 0 the first entries, as many as the counts say, are the compacted mesh, all room behind them is zero bits, and no list is longer or shorter
pub record Kept (m behind : Mesh) (answer : Compacted) : Type 0 where
  pub corners : behind.corners ≡ (compacted m).corners
  pub positions : take (point_width * answer.positions) behind.positions ≡ (compacted m).positions
  pub textures : take (texel_width * answer.textures) behind.textures ≡ (compacted m).textures
  pub normals : take (point_width * answer.normals) behind.normals ≡ (compacted m).normals
  pub freed_positions :
      drop (point_width * answer.positions) behind.positions ≡ replicate (length m.positions - point_width * answer.positions) zero_bits
  pub freed_textures :
      drop (texel_width * answer.textures) behind.textures ≡ replicate (length m.textures - texel_width * answer.textures) zero_bits
  pub freed_normals : drop (point_width * answer.normals) behind.normals ≡ replicate (length m.normals - point_width * answer.normals) zero_bits
  pub long_positions : length behind.positions ≡ length m.positions
  pub long_textures : length behind.textures ≡ length m.textures
  pub long_normals : length behind.normals ≡ length m.normals

abbrev pub FirstEntries : Type 0
FirstEntries = (m behind : Mesh) (s s' : List ℕ) (answer : Compacted) → InPlace m behind s s' answer → answer.number ≡ 0 → Kept m behind answer

-- and the counts are those of the compacted mesh
pub record Counted (m : Mesh) (answer : Compacted) : Type 0 where
  pub counted_positions : point_width * answer.positions ≡ length (compacted m).positions
  pub counted_textures : texel_width * answer.textures ≡ length (compacted m).textures
  pub counted_normals : point_width * answer.normals ≡ length (compacted m).normals

abbrev pub EntriesCounted : Type 0
EntriesCounted = (m behind : Mesh) (s s' : List ℕ) (answer : Compacted) → InPlace m behind s s' answer → answer.number ≡ 0 → Counted m answer

-- zero bits are those of the number 0: no bit is set, not that of the sign either
abbrev pub NoBitSet : Type 0
NoBitSet = to_bits binary64 zero_bits ≡ 0

-- on 0 the number list's stated entries, one for each entry of the longest list, hold zeros, and what stands behind them has not changed
pub record Cleared (m : Mesh) (s s' : List ℕ) : Type 0 where
  pub zeros : take (longest m) s' ≡ replicate (longest m) 0
  pub rest : drop (longest m) s' ≡ drop (longest m) s

abbrev pub NumbersCleared : Type 0
NumbersCleared =
    (m behind : Mesh) (s s' : List ℕ) (answer : Compacted) → InPlace m behind s s' answer → answer.number ≡ 0 → Cleared m s s'

-- where ordinary compaction answers 0 too, both give one result
pub record AsOrdinary (result : Result) (ordinary : Compacted) (behind : Mesh) (answer : Compacted) : Type 0 where
  pub position_count_is : answer.positions ≡ ordinary.positions
  pub texture_count_is : answer.textures ≡ ordinary.textures
  pub normal_count_is : answer.normals ≡ ordinary.normals
  pub positions : take (point_width * answer.positions) behind.positions ≡ take (point_width * ordinary.positions) result.positions
  pub textures : take (texel_width * answer.textures) behind.textures ≡ take (texel_width * ordinary.textures) result.textures
  pub normals : take (point_width * answer.normals) behind.normals ≡ take (point_width * ordinary.normals) result.normals
  pub corners : behind.corners ≡ take (length behind.corners) result.corners

abbrev pub GivesTheOrdinary : Type 0
GivesTheOrdinary =
    (m behind : Mesh) (s s' : List ℕ) (answer : Compacted) (before result : Result) (ordinary : Compacted)
    → InPlace m behind s s' answer → answer.number ≡ 0 → Compaction m before result ordinary → ordinary.number ≡ 0
    → AsOrdinary result ordinary behind answer

-- and the corners are those of the ordinary compaction, all of the mesh's
abbrev pub GivesAllCorners : Type 0
GivesAllCorners =
    (m behind : Mesh) (s s' : List ℕ) (answer : Compacted) (before result : Result) (ordinary : Compacted)
    → InPlace m behind s s' answer → answer.number ≡ 0 → Compaction m before result ordinary → ordinary.number ≡ 0
    → behind.corners ≡ take (length m.corners) result.corners
