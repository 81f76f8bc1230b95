-- Compaction in place, as change request 12 has it: what the lists hold afterwards. Assumes nothing.
use Rattle.std.specs.Prelude.{ℕ, ◌-◌, ◌≤◌, max, ◌≡◌, List, [], ◌∷◌, ◌++◌, length, replicate, Float}
use Rattle.std.proofs.lemmas.List.Edits.{sets}
use Rattle.std.specs.Float.Ieee.{of_bits}
use Rattle.std.specs.Float.{binary64}
use Rattle.mesh.specs.Mesh.{Mesh, position_count, texture_count, normal_count}
use Rattle.mesh.specs.Table.{mesh_number, first_of, when, lent, short, after}
use Rattle.unused.specs.Compaction.{Compacted, compacted}

-- zero bits
abbrev pub zero_bits : Float
zero_bits = of_bits binary64 0

-- the new list in the room of the old: it stands first, and all freed room behind it is zero bits
unfoldable pub in_room_of : List Float → List Float → List Float
in_room_of old new = new ++ replicate (length old - length new) zero_bits

-- how many entries the longest of the three lists has
unfoldable pub longest : Mesh → ℕ
longest m = max (position_count m) (max (texture_count m) (normal_count m))

-- the number returned: 1 to 5 of the mesh, else 9 where the number list is too short, else 0
unfoldable pub in_place_number : Mesh → List ℕ → ℕ
in_place_number m numbers = first_of (mesh_number m ∷ when (short (lent (length numbers) (longest m) ∷ [])) 9 ∷ [])

-- what the call answers, and what the mesh and the number list are before and after it: on 0 each list begins with what ordinary
-- compaction gives and has zero bits behind it, the corners are those of the compacted mesh, and the number list's stated entries
-- hold zeros; on any other number nothing has moved, and each count is 0
pub record InPlace (m behind : Mesh) (s s' : List ℕ) (answer : Compacted) : Type 0 where
  pub number : answer.number ≡ in_place_number m s
  pub position_count_is : answer.positions ≡ after answer.number (position_count (compacted m)) 0
  pub texture_count_is : answer.textures ≡ after answer.number (texture_count (compacted m)) 0
  pub normal_count_is : answer.normals ≡ after answer.number (normal_count (compacted m)) 0
  pub positions : behind.positions ≡ after answer.number (in_room_of m.positions (compacted m).positions) m.positions
  pub textures : behind.textures ≡ after answer.number (in_room_of m.textures (compacted m).textures) m.textures
  pub normals : behind.normals ≡ after answer.number (in_room_of m.normals (compacted m).normals) m.normals
  pub corners : behind.corners ≡ after answer.number (compacted m).corners m.corners
  pub sizes : behind.sizes ≡ m.sizes
  pub numbers : s' ≡ after answer.number (sets s 0 (replicate (longest m) 0)) s

-- a mesh that is accepted, with room for its numbers
pub record Roomy (m : Mesh) (s : List ℕ) : Type 0 where
  pub accepted : mesh_number m ≡ 0
  pub room : longest m ≤ length s
