-- What removal promises of its result, beside what the call answers. Assumes nothing.
use Rattle.std.specs.Prelude.{ℕ, ◌≤◌, ◌<◌, ◌≡◌, Bool, true, false, not, ◌&&◌, length, get_or, eqb}
use mathlib.Core.List.{List, [], ◌∷◌, Memᴰ}
use Rattle.lists.specs.Lists.{every, some, only, span}
use Rattle.lists.specs.Same.{same_numbers}
use Rattle.mesh.specs.Mesh.{Mesh, Corner, Ring, faces}
use Rattle.mesh.specs.Table.{mesh_number, falls}
use Rattle.grouping.specs.Push.{pushed, corner_count, of_kind}
use Rattle.grouping.specs.Tags.{beside}
use Rattle.folding.specs.Folding.{folded, pieces}
use Rattle.removal.specs.Origins.{origins_of}
use Rattle.removal.specs.Folded.{removed, unfolded_mesh}

-- no face that is left is folded
abbrev pub NoneFolded : Type 0
NoneFolded = (fs : List Ring) → every (λ (r : Ring). not (folded r)) (removed fs) ≡ true

-- there are no more corners than before
abbrev pub NoMoreCorners : Type 0
NoMoreCorners = (fs : List Ring) → corner_count (removed fs) ≤ corner_count fs

-- of an accepted mesh the result is accepted too
abbrev pub MeshAgain : Type 0
MeshAgain = (m : Mesh) → mesh_number m ≡ 0 → mesh_number (unfolded_mesh m) ≡ 0

-- and where no face is folded nothing changes
abbrev pub NothingChanges : Type 0
NothingChanges = (m : Mesh) → mesh_number m ≡ 0 → some folded (faces m) ≡ false → unfolded_mesh m ≡ m

-- ---- which face each face of the result came from

-- there are as many origins as faces
abbrev pub AsManyOrigins : Type 0
AsManyOrigins = (fs : List Ring) → length (origins_of fs) ≡ length (removed fs)

-- face a, and the faces of the result that came from it
abbrev pub face_at : List Ring → ℕ → Ring
face_at fs a = get_or fs a []

abbrev pub came_from : List Ring → ℕ → List Ring
came_from fs a = beside (eqb a) (origins_of fs) (removed fs)

-- what came from a face is just what its pieces are, grouped: none is lost, none is invented, and those of one group come in the order
-- of the pieces. From a number that no face has nothing came
abbrev pub WhatAFaceLeaves : Type 0
WhatAFaceLeaves = (fs : List Ring) (a : ℕ) → came_from fs a ≡ pushed (pieces (face_at fs a))

-- whether a ring has this corner
abbrev pub has_corner : Ring → Corner → Bool
has_corner r c = some (same_numbers c) r

-- face k of the result by itself: its origin is a face, of which it is a piece; so it has corners of that face only
abbrev pub origin_at : List Ring → ℕ → ℕ
origin_at fs k = get_or (origins_of fs) k 0

pub record Origin (fs : List Ring) (k : ℕ) : Type 0 where
  pub is_face : origin_at fs k < length fs
  pub is_piece_is : Memᴰ (get_or (removed fs) k []) (pieces (face_at fs (origin_at fs k)))
  pub corners : every (has_corner (face_at fs (origin_at fs k))) (get_or (removed fs) k []) ≡ true

abbrev pub EachHasItsOrigin : Type 0
EachHasItsOrigin = (fs : List Ring) (k : ℕ) → k < length (removed fs) → Origin fs k

-- the origins of the faces of group g; in no group they fall
abbrev pub origins_in : List Ring → ℕ → List ℕ
origins_in fs g = beside (of_kind g) (removed fs) (origins_of fs)

abbrev pub OriginsAscend : Type 0
OriginsAscend = (fs : List Ring) (g : ℕ) → falls (origins_in fs g) ≡ false

-- a face is kept where it is not folded; the origins of the kept faces of a group are the numbers of the faces of that group that are not
-- folded, ascending, each once
abbrev pub kept : List Ring → ℕ → Bool
kept fs a = not (folded (face_at fs a))

abbrev pub KeptAscend : Type 0
KeptAscend =
    (fs : List Ring) (g : ℕ)
    → only (kept fs) (origins_in fs g) ≡ only (λ (a : ℕ). kept fs a && of_kind g (face_at fs a)) (span 0 (length fs))

-- a face that is not folded stays as it is: it is all that came from it
abbrev pub KeptUnchanged : Type 0
KeptUnchanged =
    (fs : List Ring) (a : ℕ) → folded (face_at fs a) ≡ false → 3 ≤ length (face_at fs a) → came_from fs a ≡ face_at fs a ∷ []

-- and wherever its number stands in the origins, it stands in the result
abbrev pub KeptThere : Type 0
KeptThere =
    (fs : List Ring) (k : ℕ) → k < length (removed fs) → folded (face_at fs (origin_at fs k)) ≡ false
    → get_or (removed fs) k [] ≡ face_at fs (origin_at fs k)

-- where no face is folded each keeps its own number: 0, 1, 2, ..
abbrev pub OwnNumbers : Type 0
OwnNumbers = (m : Mesh) → mesh_number m ≡ 0 → some folded (faces m) ≡ false → origins_of (faces m) ≡ span 0 (length (faces m))
