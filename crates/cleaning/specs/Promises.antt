-- What a caller may count on of a mesh that was cleaned, and of the two calls in a row. Proved in proofs/. Assumes nothing.
use Rattle.std.specs.Prelude.{ℕ, ◌*◌, ◌<◌, ◌≡◌, false, length, get_or, take}
use mathlib.Core.List.{List, [], map, Memᴰ}
use Rattle.mesh.specs.Limits.{width}
use Rattle.mesh.specs.Mesh.{Mesh, mesh_of, Ring, mark, rings, faces}
use Rattle.mesh.specs.Table.{mesh_number}
use Rattle.folding.specs.Folding.{pieces}
use Rattle.removal.specs.Folded.{Removed}
use Rattle.removal.specs.Folded as removal
use Rattle.removal.specs.Promises.{face_at}
use Rattle.unused.specs.Compaction.{Compacted}
use Rattle.unused.specs.Compaction as compaction
use Rattle.cleaning.specs.Cleaning.{cleaned}

-- of an accepted mesh it is accepted too
abbrev pub CleanedIsAccepted : Type 0
CleanedIsAccepted = (m : Mesh) → mesh_number m ≡ 0 → mesh_number (cleaned m) ≡ 0

-- the mark moves with its corner: face by face the marks are those of the faces that the removal left, which are whole corners of the faces
-- that were given (folding `PiecesAtPlaces`, removal `WhatAFaceLeaves`)
abbrev pub MarksStay : Type 0
MarksStay = (m : Mesh) → mesh_number m ≡ 0 → map (map mark) (faces (cleaned m)) ≡ map (map mark) (removal.removed (faces m))

-- ---- the two calls in a row

-- what removal left in the lists that it was lent, by the counts that it answered: the mesh that compaction is given
abbrev pub handed_on : Mesh → removal.Result → Removed → Mesh
handed_on m left answer =
    mesh_of m.positions m.textures m.normals (take (width * answer.corners) left.corners) (take answer.faces left.sizes)

-- the faces there are afterwards: the corners are those that compaction wrote, the sizes still those that removal wrote
abbrev pub faces_after : removal.Result → Removed → compaction.Result → List Ring
faces_after left answer packed = rings (take answer.faces left.sizes) (take (width * answer.corners) packed.corners)

-- each call answered 0
pub record InARow
    (m : Mesh) (before left : removal.Result) (answer : Removed) (room packed : compaction.Result) (counts : Compacted) : Type 0 where
  pub removes : removal.Removal m before left answer
  pub removed_0 : answer.number ≡ 0
  pub compacts : compaction.Compaction (handed_on m left answer) room packed counts
  pub compacted_0 : counts.number ≡ 0

-- such calls can be had, of every accepted mesh and lists with each call's stated room; compaction's goes by the mesh that removal gives
abbrev pub CanComeInARow : Type 0
CanComeInARow =
    (m : Mesh) (before : removal.Result) (room : compaction.Result) → mesh_number m ≡ 0
    → removal.too_short m before ≡ false → compaction.too_short (removal.unfolded_mesh m) room ≡ false
    → (left : removal.Result) × (answer : Removed) × (packed : compaction.Result) × (counts : Compacted)
    × InARow m before left answer room packed counts

-- a face came from face `origin` of m: it is one of that face's pieces, its corners renumbered by compaction
pub record Came (m given : Mesh) (origin : ℕ) (face : Ring) : Type 0 where
  pub is_face : origin < length (faces m)
  pub piece : Ring
  pub is_piece_is : Memᴰ piece (pieces (face_at (faces m) origin))
  pub is_renumbered : face ≡ map (compaction.renumbered given) piece

-- compaction keeps the faces' order, so the origins hold after it: face k came from the face whose number removal wrote at k
abbrev pub OriginsHold : Type 0
OriginsHold =
    (m : Mesh) (before left : removal.Result) (answer : Removed) (room packed : compaction.Result) (counts : Compacted)
    → InARow m before left answer room packed counts → (k : ℕ) → k < answer.faces
    → Came m (handed_on m left answer) (get_or left.origins k 0) (get_or (faces_after left answer packed) k [])
