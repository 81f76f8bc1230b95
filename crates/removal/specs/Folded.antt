-- The removal of folded faces, as document 01, 'Folded faces' and 'Numbers returned', has it, with the origins of change request 3.
-- What one face becomes stands in folding's specs/Folding.antt. Assumes nothing.
use Rattle.std.specs.Prelude.{ℕ, ◌/◌, ◌≡◌, Bool, List, [], ◌∷◌, map, length, Result as Outcome, Ok, Err}
use Rattle.std.proofs.lemmas.List.Edits.{sets}
use Rattle.lists.specs.Lists.{joined, each}
use Rattle.mesh.specs.Limits.{width, least_ring}
use Rattle.mesh.specs.Mesh.{Mesh, mesh_of, Ring, faces}
use Rattle.mesh.specs.Table.{mesh_number, first_of, when, lent, short, after}
use Rattle.mesh.specs.Refusals.{number_of}
use Rattle.mesh.specs.declared.refusal.Refusal.{Refusal}
use Rattle.grouping.specs.Push.{pushed, corner_count}
use Rattle.grouping.specs.declared.Filled.{Filled}
use Rattle.folding.specs.Folding.{pieces}
use Rattle.removal.specs.Origins.{origins_of}

-- results are grouped as `push` does, each group in the order the pieces came
unfoldable pub removed : List Ring → List Ring
removed fs = pushed (each pieces fs)

-- the mesh that removal gives; the attribute lists don't change
unfoldable pub unfolded_mesh : Mesh → Mesh
unfolded_mesh m =
    mesh_of m.positions m.textures m.normals (each joined (removed (faces m))) (map length (removed (faces m)))

-- the lists that are lent for the result, at one moment
pub record Result : Type 0 where
  pub corners : List ℕ
  pub sizes : List ℕ
  pub origins : List ℕ

abbrev pub result_of : List ℕ → List ℕ → List ℕ → Result
result_of c s o = record { corners = c; sizes = s; origins = o }

-- stated room: the input's corners, and a third of their count, rounded down, for sizes and for origins
unfoldable pub too_short : Mesh → Result → Bool
too_short m r =
    short
    (lent (length r.corners) (length m.corners)
    ∷ lent (length r.sizes) (length m.corners / width / least_ring)
    ∷ lent (length r.origins) (length m.corners / width / least_ring)
    ∷ [])

-- the number returned: 1 to 5 of the mesh, else 9, else 0
unfoldable pub removal_number : Mesh → Result → ℕ
removal_number m r = first_of (mesh_number m ∷ when (too_short m r) 9 ∷ [])

-- the number returned, and how many corners and faces are left
pub record Removed : Type 0 where
  pub number : ℕ
  pub corners : ℕ
  pub faces : ℕ

-- what the call's result says: 0 and the counts, or a refusal with each count 0
abbrev pub removed_of : Outcome Filled Refusal → Removed
removed_of (Ok left) = record { number = 0; corners = left.corners; faces = left.faces }
removed_of (Err refusal) = record { number = number_of refusal; corners = 0; faces = 0 }

-- what the call answers, and what the lent lists hold before and after it: on 0 the corners, sizes and origins of the new faces from
-- their beginning on, room past them unchanged, and how many corners and faces there are; on any other number nothing is written,
-- and each count is 0
pub record Removal (m : Mesh) (before afterwards : Result) (answer : Removed) : Type 0 where
  pub number : answer.number ≡ removal_number m before
  pub corner_count_is : answer.corners ≡ after answer.number (corner_count (removed (faces m))) 0
  pub face_count : answer.faces ≡ after answer.number (length (removed (faces m))) 0
  pub corners : afterwards.corners ≡ after answer.number (sets before.corners 0 (unfolded_mesh m).corners) before.corners
  pub sizes : afterwards.sizes ≡ after answer.number (sets before.sizes 0 (unfolded_mesh m).sizes) before.sizes
  pub origins : afterwards.origins ≡ after answer.number (sets before.origins 0 (origins_of (faces m))) before.origins
