-- Faces in any order, grouped as `push` does (document 01, 'What is carried over', 'The mesh' and 'Numbers returned'): what the call
-- answers and leaves. Assumes nothing.
use Rattle.std.specs.Prelude.{ℕ, ◌≡◌, Bool, List, [], ◌∷◌, map, length, ltb, Result, Ok, Err}
use Rattle.std.proofs.lemmas.List.Edits.{sets}
use Rattle.lists.specs.Lists.{some, joined, each}
use Rattle.mesh.specs.Limits.{ring_limit}
use Rattle.mesh.specs.Mesh.{Mesh, Ring, mesh_of, rings}
use Rattle.mesh.specs.Table.{over_limits, uneven, first_of, when, lent, short, after}
use Rattle.grouping.specs.Push.{pushed, corner_count}
use Rattle.grouping.specs.declared.Filled.{Filled}
use Rattle.mesh.specs.declared.refusal.Refusal.{Refusal}
use Rattle.mesh.specs.Refusals.{number_of}

-- the corners of faces one behind the other, and how many each face has: the two lists that are given, and the two that are lent, at
-- one moment
pub record FaceLists : Type 0 where
  pub corners : List ℕ
  pub sizes : List ℕ

abbrev pub faces_of : List ℕ → List ℕ → FaceLists
faces_of c s = record { corners = c; sizes = s }

-- the corners and sizes as a mesh without positions, texture points and normals, whose rows 1 and 2 are the table's own
abbrev pub bare : List ℕ → List ℕ → Mesh
bare c s = mesh_of [] [] [] c s

-- 3: a face has more corners than the limit; one of fewer than three is no fault, since it is dropped
unfoldable pub too_large : List ℕ → Bool
too_large s = some (ltb ring_limit) s

-- 1 to 3; 4 never, since grouping is what is asked for, and 5 never, since there is no list that an index could be held to
unfoldable pub faces_number : List ℕ → List ℕ → ℕ
faces_number c s = first_of (when (over_limits (bare c s)) 1 ∷ when (uneven (bare c s)) 2 ∷ when (too_large s) 3 ∷ [])

-- 9: a lent list is shorter than the list that it is made from
unfoldable pub too_short : FaceLists → FaceLists → Bool
too_short given lists =
    short
    (lent (length lists.corners) (length given.corners) ∷ lent (length lists.sizes) (length given.sizes) ∷ [])

unfoldable pub push_number : FaceLists → FaceLists → ℕ
push_number given lists = first_of (faces_number given.corners given.sizes ∷ when (too_short given lists) 9 ∷ [])

-- the faces, grouped
abbrev pub grouped : FaceLists → List Ring
grouped given = pushed (rings given.sizes given.corners)

-- the number returned, and how many corners and faces are written
pub record Pushed : Type 0 where
  pub number : ℕ
  pub corners : ℕ
  pub faces : ℕ

-- what the call answers, and what the lent lists hold before and after it: on 0 the corners and sizes of the grouped faces from
-- their beginning on, room past them unchanged, and how many corners and faces there are; on any other number nothing is written,
-- and each count is 0
pub record Grouped (given before afterwards : FaceLists) (answer : Pushed) : Type 0 where
  pub number : answer.number ≡ push_number given before
  pub corner_count_is : answer.corners ≡ after answer.number (corner_count (grouped given)) 0
  pub face_count : answer.faces ≡ after answer.number (length (grouped given)) 0
  pub corners : afterwards.corners ≡ after answer.number (sets before.corners 0 (each joined (grouped given))) before.corners
  pub sizes : afterwards.sizes ≡ after answer.number (sets before.sizes 0 (map length (grouped given))) before.sizes

-- a refusal: each count beside the number is 0
abbrev pub refused_by : ℕ → Pushed
refused_by n = record { number = n; corners = 0; faces = 0 }

-- what the call's result says: 0 and the counts, or a refusal
abbrev pub pushed_of : Result Filled Refusal → Pushed
pushed_of (Ok filled) = record { number = 0; corners = filled.corners; faces = filled.faces }
pushed_of (Err refusal) = refused_by (number_of refusal)
